-- A document is what toml reads, and a text that it refuses is none.
use Rattle.std.proofs.Common.{rules, ◌≡◌, sym, subst, IfOk, IfErr, Ok, codes}
use Rattle.nys_scenario.specs.Document.{Said, answer_from, said_by}
use Rattle.nys_scenario.specs.declared.fault.KeyKind.TheVariants.{Syntax}
use Rattle.nys_scenario.specs.Keys.{IsFaultOf}
use Rattle.toml.specs.Data.{Members}
use Rattle.toml.specs.View.{table_view}
use Rattle.std.specs.Prelude.{Option}
use Rattle.nys_scenario.proofs.Bounded.{bounded, if_ok_gives}
use Rattle.nys_scenario.proofs.Texts.{texts_within}
use Rattle.nys_scenario.proofs.Refusals.{is_document, is_fault, no_document}
use Rattle.nys_scenario.proofs.reading.read.Goals as goal

pub returns-in-Ok-clause-said : goal.returns-in-Ok-clause-said
returns-in-Ok-clause-said c =
    let read = is_document c.args.bytes.now (table_view c.in-Ok.table) c.in-Ok.ensures.ok.0 c.in-Ok.ensures.ok.1 in
    subst (λ (d : Option Members). IfOk c.scenario.result (λ s. answer_from c.args.needs d ≡ Ok (said_by s))) (sym read) c.scenario.ensures.said

pub returns-in-Ok-clause-bounded : goal.returns-in-Ok-clause-bounded
returns-in-Ok-clause-bounded c =
    let read = is_document c.args.bytes.now (table_view c.in-Ok.table) c.in-Ok.ensures.ok.0 c.in-Ok.ensures.ok.1 in
    if_ok_gives c.scenario.result _ _ (λ s said. bounded c.args.needs c.args.bytes.now (said_by s) said)
    (subst (λ (d : Option Members). IfOk c.scenario.result (λ s. answer_from c.args.needs d ≡ Ok (said_by s))) (sym read) c.scenario.ensures.said)

pub returns-in-Ok-clause-schedule : goal.returns-in-Ok-clause-schedule
returns-in-Ok-clause-schedule c =
    let read = is_document c.args.bytes.now (table_view c.in-Ok.table) c.in-Ok.ensures.ok.0 c.in-Ok.ensures.ok.1 in
    if_ok_gives c.scenario.result _ _ (λ s said. (texts_within c.args.needs c.args.bytes.now (said_by s) said).0)
    (subst (λ (d : Option Members). IfOk c.scenario.result (λ s. answer_from c.args.needs d ≡ Ok (said_by s))) (sym read) c.scenario.ensures.said)

pub returns-in-Ok-clause-run : goal.returns-in-Ok-clause-run
returns-in-Ok-clause-run c =
    let read = is_document c.args.bytes.now (table_view c.in-Ok.table) c.in-Ok.ensures.ok.0 c.in-Ok.ensures.ok.1 in
    if_ok_gives c.scenario.result _ _ (λ s said. (texts_within c.args.needs c.args.bytes.now (said_by s) said).1)
    (subst (λ (d : Option Members). IfOk c.scenario.result (λ s. answer_from c.args.needs d ≡ Ok (said_by s))) (sym read) c.scenario.ensures.said)

pub returns-in-Ok-clause-refused : goal.returns-in-Ok-clause-refused
returns-in-Ok-clause-refused c =
    let read = is_document c.args.bytes.now (table_view c.in-Ok.table) c.in-Ok.ensures.ok.0 c.in-Ok.ensures.ok.1 in
    subst (λ (d : Option Members). IfErr c.scenario.result (IsFaultOf (answer_from c.args.needs d))) (sym read) c.scenario.ensures.refused

pub returns-else-is_memory-clause-refused : goal.returns-else-is_memory-clause-refused
returns-else-is_memory-clause-refused c =
    let none = no_document c.args.bytes.now (c.in-Err.ensures.refused (search rules)) in
    subst (λ (d : Option Members). IsFaultOf (answer_from c.args.needs d) c.key_fault.result) (sym none) (is_fault Said (codes "document") Syntax c.key_fault.result c.key_fault.ensures)
