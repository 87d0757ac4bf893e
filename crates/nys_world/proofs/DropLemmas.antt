-- What is dropped by the head of its record.
use Rattle.std.proofs.Common.{◌≡◌, ◌++◌, ◌∷◌, [], ℕ, zero, suc, Bool, List, Some, Ok, refl, append-nil, inl, inr, subst, sym}
use Rattle.std.proofs.lemmas.Bool.{cases_eq}
use Rattle.std.specs.Global.{Vec}
use Rattle.std.specs.Prelude.{Option, slice_get}
use Rattle.nys_agreement.proofs.TableLemmas.{put_here, put_there}
use Rattle.nys_source.specs.Tables.{put}
use Rattle.nys_rules.specs.declared.cause.DropCause.{DropCause}
use Rattle.nys_rules.specs.declared.notice.Take.{Take}
use Rattle.nys_rules.specs.Forged.{Entry}
use Rattle.nys_rules.specs.Handling.{dropped_by}
use Rattle.nys_rules.specs.Happening.{NodeTakes, OlympusTakes, with_take}
use Rattle.nys_rules.specs.Packets.{Sent}
use Rattle.nys_rules.specs.Scope.{olympus}
use Rattle.nys_rules.specs.View.{View}
use Rattle.nys_rules.specs.World.{after_node, after_olympus, Setting, World}
use Rattle.nys_wire.specs.Heads.{head_in}
use Rattle.nys_wire.specs.declared.head.Head.{Head}
use Rattle.nys_world.specs.Given.{frame_in, IsDropped, IsUnheard}
use Rattle.nys_world.specs.Shows.{AreTakes, heads_of, Keeps, Shows}
use Rattle.nys_world.proofs.BooksKeep.{keeps_beside, keeps_taken}
use Rattle.nys_world.proofs.PlaceLemmas.{nodes_alike}
use Rattle.nys_world.specs.declared.books.Books.{Books}
use Rattle.nys_world.specs.declared.moment.Moment.{Moment}

-- the head that stands beside a packet is that of its bytes
pub head_beside : (pool : List Sent) (k : ℕ) (head : Head) → slice_get (heads_of pool) k ≡ Some (Some head)
    → head_in (frame_in (slice_get pool k)) ≡ Some head
head_beside [] k head at = absurd (cc)
head_beside (p ∷ pool) zero head at = let there : head_in p.frame ≡ Some head = cc in there
head_beside (p ∷ pool) (suc k) head at = head_beside pool k head at

-- the world in which the node of g did nothing
abbrev pub unmoved : ℕ → World → World
unmoved g w = record w { nodes = put w.nodes g (w.nodes g); ledger = w.ledger ++ [] }

-- what the node of g drops changes nothing but what is told of it
pub takes_dropped : {S : Type 0} (setting : Setting S) (w : World) (g : ℕ) (packet : Option ℕ) (frame : List ℕ) (cause : DropCause)
    → IsDropped setting w g frame cause → NodeTakes setting w g packet frame (Ok (unmoved g (with_take g packet (Some cause) w)))
unfolding after_node
takes_dropped setting w g packet frame cause drops =
    record { after = w.nodes g; done = dropped_by cause; handles = drops; ends = refl }

-- a view that is put where it was changes none
put_own : (views : ℕ → View) (g k : ℕ) → put views g (views g) k ≡ views k
put_own views g k = elim (cases_eq k g) [
  | inl e ↦ subst (λ z. put views g (views g) z ≡ views z) (sym e) (put_here views g (views g))
  | inr ne ↦ put_there views g (views g) k ne
]

-- the books of the one world are those of the other
keeps_unmoved : (books : Books) (g : ℕ) (w : World) (takes : List Take) → Keeps books w → Keeps books (unmoved g (record w { takes = takes }))
keeps_unmoved books g w takes keeps =
    let nodes = put w.nodes g (w.nodes g) in
    subst (λ (ledger : List Entry). Keeps books (record w { nodes = nodes; takes = takes; ledger = ledger })) (sym (append-nil w.ledger))
    (keeps_taken books (record w { nodes = nodes }) takes (keeps_beside books w nodes w.olympus keeps))

-- all that the one world has is shown of the other
pub shows_unmoved : {P S : Type 0} (setting : Setting S) (traced : Bool) (moment : Moment P S) (kept : Vec Take) (g : ℕ) (w : World) (takes : List Take)
    → AreTakes traced kept.items takes → Shows setting traced moment w
    → Shows setting traced (record moment { takes = kept }) (unmoved g (record w { takes = takes }))
shows_unmoved setting traced moment kept g w takes are shows = record {
  nodes = nodes_alike setting moment.nodes.items w (unmoved g (record w { takes = takes })) (put_own w.nodes g) shows.nodes;
  olympus = shows.olympus;
  books = keeps_unmoved moment.books g w takes shows.books;
  takes = are;
}

-- the world in which the Olympus did nothing
abbrev pub unheard : World → World
unheard w = record w { olympus = w.olympus; ledger = w.ledger ++ [] }

-- what the Olympus drops changes nothing but what is told of it
pub takes_unheard : {S : Type 0} (setting : Setting S) (w : World) (packet : Option ℕ) (frame : List ℕ) (cause : DropCause)
    → IsUnheard setting w frame cause → OlympusTakes setting w packet frame (Ok (unheard (with_take olympus packet (Some cause) w)))
unfolding after_olympus
takes_unheard setting w packet frame cause drops =
    record { after = w.olympus; done = dropped_by cause; hears = drops; ends = refl }

-- all that the one world has is shown of the other
pub shows_unheard : {P S : Type 0} (setting : Setting S) (traced : Bool) (moment : Moment P S) (kept : Vec Take) (w : World) (takes : List Take)
    → AreTakes traced kept.items takes → Shows setting traced moment w
    → Shows setting traced (record moment { takes = kept }) (unheard (record w { takes = takes }))
shows_unheard setting traced moment kept w takes are shows = record {
  nodes = nodes_alike setting moment.nodes.items w (unheard (record w { takes = takes })) (λ g. refl) shows.nodes;
  olympus = shows.olympus;
  books = subst (λ (ledger : List Entry). Keeps moment.books (record w { takes = takes; ledger = ledger })) (sym (append-nil w.ledger))
      (keeps_taken moment.books w takes shows.books);
  takes = are;
}
