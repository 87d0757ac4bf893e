-- What each step of a node keeps, each step of a world keeps of all nodes; and two facts are kept together.
use Rattle.std.proofs.Common.{◌≡◌, ◌≢◌, ℕ, List, None, Ok, sym, subst, append-nil}
use Rattle.nys_agreement.proofs.TableLemmas.{put_case}
use Rattle.nys_stmt.specs.declared.records.Record.{Record}
use Rattle.nys_stmt.specs.declared.statement.Body.TheVariants as body
use Rattle.nys_stmt.specs.declared.statement.Statement.{Statement}
use Rattle.nys_wire.specs.Reading.{whole_record}
use Rattle.nys_rules.specs.Asking.{questions}
use Rattle.nys_rules.specs.Dropping.{accepted, verdict}
use Rattle.nys_rules.specs.Forged.{Entry, makers_told, with_made}
use Rattle.nys_rules.specs.Handling.{acts_by, noted_by, with_input}
use Rattle.nys_rules.specs.Happening.{AreTrue}
use Rattle.nys_rules.specs.Noting.{noted}
use Rattle.nys_rules.specs.Olympus.{hosts_of, opening_acts, proclaimed}
use Rattle.nys_rules.specs.Packets.{Acts, nothing}
use Rattle.nys_rules.specs.Scope.{olympus}
use Rattle.nys_rules.specs.Taking.{acts_of, taken}
use Rattle.nys_rules.specs.View.{View}
use Rattle.nys_rules.specs.World.{Setting, World}
use Rattle.nys_laws.proofs.EventKeeping.{WorldsKeep}
use Rattle.nys_laws.proofs.GrownLemmas.{with_step}
use Rattle.nys_laws.proofs.WorldKeeping.{HoldsOfNodes, StepsKeep}

-- a fact of a node's view that a record keeps which was read, isn't dropped and has true makers
abbrev pub RecordsKeep : {S : Type 0} → Setting S → (ℕ → List Entry → View → Type 0) → Type 0
RecordsKeep setting Fact = (g : ℕ) (ledger : List Entry) (v : View) (r : Record) (frame : List ℕ)
    → whole_record frame ≡ Ok r → verdict setting.scope v r ≡ None
    → AreTrue setting ledger r.statement
    (makers_told (noted_by nothing r (accepted setting.scope r.statement.epoch v.me r)))
    → Fact g ledger v
    → Fact g (with_made g (acts_by setting.scope v r).made ledger) (noted setting.scope v r)

-- a step of one node
step_nodes : {S : Type 0} (setting : Setting S) (Fact : ℕ → List Entry → View → Type 0) → StepsKeep setting Fact
    → (w : World) (g : ℕ) (v : View) (acts : Acts)
    → (g ≢ olympus → Fact g (with_made g acts.made w.ledger) v) → HoldsOfNodes Fact w
    → HoldsOfNodes Fact (with_step g v acts w)
step_nodes setting Fact keep w g v acts here all x ne =
    put_case (Fact x (with_made g acts.made w.ledger)) w.nodes g v x
    (λ same. subst (λ y. Fact y (with_made g acts.made w.ledger) v) (sym same) (here (subst (λ y. y ≢ olympus) same ne)))
    (λ other. keep.beside g acts.made x w.ledger (w.nodes x) (λ same. other (sym same)) (all x ne))

-- what the Olympus makes is made beside the nodes
olympus_beside : {S : Type 0} (setting : Setting S) (Fact : ℕ → List Entry → View → Type 0) → StepsKeep setting Fact
    → (w : World) (made : List Statement) → HoldsOfNodes Fact w
    → (x : ℕ) → x ≢ olympus → Fact x (with_made olympus made w.ledger) (w.nodes x)
olympus_beside setting Fact keep w made all x ne =
    keep.beside olympus made x w.ledger (w.nodes x) (λ same. ne (sym same)) (all x ne)

-- a fact of each node's view that steps of nodes keep
pub nodes_keep : {S : Type 0} (setting : Setting S) (Fact : ℕ → List Entry → View → Type 0) → StepsKeep setting Fact
    → RecordsKeep setting Fact → WorldsKeep setting (HoldsOfNodes Fact)
nodes_keep {S} setting Fact keep records = record {
  rules = λ w g v rule acting is all.
      step_nodes setting Fact keep w g (taken setting.scope v rule) (acts_of setting.scope v rule)
      (λ ne. keep.rules g w.ledger v rule is (subst (Fact g w.ledger) acting.view (all g ne))) all;
  records = λ w g v r acting host is some all.
      step_nodes setting Fact keep w g (noted setting.scope v r) (acts_by setting.scope v r)
      (λ ne. records g w.ledger v r some.frame some.read is some.made (subst (Fact g w.ledger) acting.view (all g ne))) all;
  inputs = λ w g v payload may acting room all.
      step_nodes setting Fact keep w g (with_input payload v) nothing
      (λ ne.
      subst (λ l. Fact g l (with_input payload v)) (sym (append-nil w.ledger))
      (keep.inputs g w.ledger v payload (subst (Fact g w.ledger) acting.view (all g ne)))) all;
  asking = λ w g v acting all.
      step_nodes setting Fact keep w g v (questions setting.scope v)
      (λ ne. keep.asking g w.ledger v (subst (Fact g w.ledger) acting.view (all g ne))) all;
  hears = λ w r is some all. all;
  wedges = λ w is all.
      olympus_beside setting Fact keep w (proclaimed setting.scope w.olympus.epoch body.Wedge (hosts_of setting.scope)).made all;
  decides = λ w h after answer decides all. all;
  retires = λ w h is all. all;
  epochs = λ w epoch is all. olympus_beside setting Fact keep w (opening_acts setting.scope w.olympus epoch).made all;
  packets = λ w event packets brings all. all;
  told = λ w events delivered injected takes notes all. all;
}

-- two facts of worlds that steps keep, together
pub both_keep : {S : Type 0} (setting : Setting S) (One Other : World → Type 0) → WorldsKeep setting One
    → WorldsKeep setting Other → WorldsKeep setting (λ w. One w × Other w)
both_keep setting One Other a b = record {
  rules = λ w g v rule acting is k. (a.rules w g v rule acting is k.0, b.rules w g v rule acting is k.1);
  records = λ w g v r acting host is some k. (
    a.records w g v r acting host is some k.0,
    b.records w g v r acting host is some k.1,
  );
  inputs = λ w g v payload may acting room k. (
    a.inputs w g v payload may acting room k.0,
    b.inputs w g v payload may acting room k.1,
  );
  asking = λ w g v acting k. (a.asking w g v acting k.0, b.asking w g v acting k.1);
  hears = λ w r is some k. (a.hears w r is some k.0, b.hears w r is some k.1);
  wedges = λ w is k. (a.wedges w is k.0, b.wedges w is k.1);
  decides = λ w h after answer decides k. (
    a.decides w h after answer decides k.0,
    b.decides w h after answer decides k.1,
  );
  retires = λ w h is k. (a.retires w h is k.0, b.retires w h is k.1);
  epochs = λ w epoch is k. (a.epochs w epoch is k.0, b.epochs w epoch is k.1);
  packets = λ w event packets brings k. (a.packets w event packets brings k.0, b.packets w event packets brings k.1);
  told = λ w events delivered injected takes notes k. (
    a.told w events delivered injected takes notes k.0,
    b.told w events delivered injected takes notes k.1,
  );
}
