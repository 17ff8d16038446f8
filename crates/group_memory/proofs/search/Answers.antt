use Rattle.std.proofs.Common.{◌∙◌, arith}
use lib.Seq.{drop_at, length-take-le}
use Rattle.group_memory.proofs.Memory.{table_alone, found_small, found_holds}
use Rattle.group_memory.proofs.search.Goals as goal

pub narrowest-found-requires : goal.narrowest-found-requires
narrowest-found-requires c = table_alone c.requires _ (omega (arith, length-take-le 4225 c.args.table.now c.requires.asks.asks.table.room))

pub note-requires : goal.note-requires
note-requires c = found_small c.requires _ c.narrowest-found.ensures.narrow

pub returns-clause-holds : goal.returns-clause-holds
returns-clause-holds c =
    found_holds c.requires _ c.narrowest-found.ensures.narrow c.narrowest-found.ensures.over c.note.ensures.width_value
    c.note.ensures.height_value

pub returns-clause-beyond : goal.returns-clause-beyond
returns-clause-beyond c = drop_at c.narrowest-found.new.e _ 4225 (c.narrowest-found.auto.e ∙ length-take-le 4225 c.args.table.now c.requires.asks.asks.table.room)
