-- What is answered to a schedule among the guards of a scenario is an answer of `replay`, or of `trace`.
use Rattle.std.proofs.Common.{◌≡◌, ℕ, IfOk, List, Result, Ok, Err, inr, subst, sym}
use Rattle.nys_answer.specs.declared.answer.Answer.{Answer}
use Rattle.nys_graph.specs.Links.{linked_in}
use Rattle.nys_graph.specs.declared.table.Graph.{Graph}
use Rattle.nys_hosts.specs.Sets.{has}
use Rattle.nys_meaning.specs.Machines.{machine_rules}
use Rattle.nys_named.specs.declared.named.Named.{Named}
use Rattle.nys_scenario.specs.Document.{Said}
use Rattle.nys_scenario.specs.Protocol.{Protocol}
use Rattle.nys_source.specs.Rules.{Rules}
use Rattle.nys_top.specs.Commands.{IsReplayOf}
use Rattle.nys_world_commands.specs.Playing.{AreGuardsOf}
use Rattle.nys_world_commands.specs.Replayed.{IsReplayAnswer, IsTextAnswer}
use Rattle.nys_played.specs.Settings.{setting_by}
use Rattle.nys_world_commands.specs.declared.guards.Guards.{Guards}
use Rattle.nys_world_commands.specs.declared.telling.Telling.{Telling}

-- the answer to the scenario's schedule among its guards is one of `replay`
replayed : {S : Type 0} (telling : Telling) (rules : Rules S) (said : Said) (guards : Guards) (text : List ℕ) (answer : Answer)
    → AreGuardsOf said guards → text ≡ said.texts.schedule
    → IsTextAnswer telling (setting_by rules guards.graphs.items guards.master (has guards.liars)) text answer
    → IsReplayAnswer telling rules said answer
replayed telling rules said guards text answer held same given =
    let read = subst (λ t. IsTextAnswer telling (setting_by rules guards.graphs.items guards.master (has guards.liars)) t answer) same given in
    let keyed = subst (λ m. IsTextAnswer telling (setting_by rules guards.graphs.items m (has guards.liars)) said.texts.schedule answer) held.master read in
    inr (record {
      graphs = guards.graphs.items;
      sound = held.sound;
      given = subst (λ l. IsTextAnswer telling (setting_by rules guards.graphs.items said.guarded.master l) said.texts.schedule answer) held.liars keyed;
    })

-- so it is of a result
pub among : {S E : Type 0} (telling : Telling) (rules : Rules S) (said : Said) (guards : Guards) (text : List ℕ) (result : Result Answer E)
    → AreGuardsOf said guards → text ≡ said.texts.schedule
    → IfOk result (IsTextAnswer telling (setting_by rules guards.graphs.items guards.master (has guards.liars)) text)
    → IfOk result (IsReplayAnswer telling rules said)
among telling rules said guards text (Ok answer) held same given = replayed telling rules said guards text answer held same given
among telling rules said guards text (Err error) held same given = given

-- an answer with one protocol is one with an equal protocol
pub with_protocol : {E : Type 0} (telling : Telling) (said : Said) (p q : Protocol) (result : Result Answer E) → p ≡ q
    → IfOk result (IsReplayOf telling q said) → IfOk result (IsReplayOf telling p said)
with_protocol telling said p q result same given = subst (λ r. IfOk result (IsReplayOf telling r said)) (sym same) given

-- an answer with one machine on one graph is one with equal ones
pub with_machine : {E : Type 0} (telling : Telling) (said : Said) (m n : Named) (g h : Graph) (result : Result Answer E) → m ≡ n → g ≡ h
    → IfOk result (IsReplayAnswer telling (machine_rules m.tree g.hosts (linked_in g.rows)) said)
    → IfOk result (IsReplayAnswer telling (machine_rules n.tree h.hosts (linked_in h.rows)) said)
with_machine telling said m n g h result named graph given =
    let moved = subst (λ x. IfOk result (IsReplayAnswer telling (machine_rules x.tree g.hosts (linked_in g.rows)) said)) named given in
    subst (λ y. IfOk result (IsReplayAnswer telling (machine_rules n.tree y.hosts (linked_in y.rows)) said)) graph moved
