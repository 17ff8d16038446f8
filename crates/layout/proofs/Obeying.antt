-- What legal foldings obey beside the rules of `LegalFrom`: the rule of marks (ticket 3) and that of turning (ticket 5).
use mathlib.Core.Path.{◌≡◌}
use mathlib.Core.List.{List}
use mathlib.Core.Bool.{true}
use lib.ListN.{length}
use Rattle.terms.specs.declared.Component.{Component}
use Rattle.terms.specs.declared.Kind.{Kind}
use Rattle.folding.specs.declared.Placed.{Placed}
use Rattle.folding.specs.declared.Placement.{Placement}
use Rattle.folding.specs.Placement.{placed_of}
use Rattle.folding.specs.Legal.{Legal}
use Rattle.folding.proofs.Rules.{LegalFrom, Unparted, Turned, legal_of, legal_unparted, legal_turned, unparted_pairs, pairs_unparted, turned_pairs, pairs_turned}
use Rattle.group.specs.Group.{unbarred}
use Rattle.layout.proofs.Marks.{last_free}

pub record Obeys (kind : Kind) (l : List Placed) : Type 0 where
  pub unparted : Unparted l
  pub turned : Turned kind l

-- A legal folding of a stack obeys, and one that keeps the other rules and obeys is legal.
pub legal_obeys : (kind : Kind) (cs : List Component) (ps : List Placement) → unbarred cs ≡ true → Legal kind cs ps → Obeys kind (placed_of cs ps)
legal_obeys kind cs ps f l = record {
  unparted = pairs_unparted (placed_of cs ps) (legal_unparted kind (placed_of cs ps) l.rules) (last_free cs ps l.whole f);
  turned = pairs_turned kind (placed_of cs ps) (legal_turned kind (placed_of cs ps) l.rules);
}

pub obeys_legal : (kind : Kind) (cs : List Component) (ps : List Placement) → length ps ≡ length cs → LegalFrom kind 0 (placed_of cs ps) → Obeys kind (placed_of cs ps) → Legal kind cs ps
obeys_legal kind cs ps w f o = record {
  whole = w;
  rules = legal_of kind (placed_of cs ps) f (unparted_pairs (placed_of cs ps) o.unparted) (turned_pairs kind (placed_of cs ps) o.turned);
}
