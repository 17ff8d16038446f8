use Rattle.std.proofs.Common.{[], ◌∷◌}
use Rattle.std.proofs.lemmas.List.Edits.{sets-eq}
use Rattle.stack_write.specs.File.{bytes_of}
use Rattle.stack_write.proofs.Columns.put_component.Goals as goal

pub returns : goal.returns
unfolding bytes_of
returns c =
    rw (c.put_word-4.ensures, c.put_word-3.ensures, c.put_word-2.ensures, c.put_word.ensures)
    (sets-eq (_ ∷ _ ∷ _ ∷ _ ∷ _ ∷ _ ∷ _ ∷ _ ∷ []) c.args.out.now 0 c.requires.room)
