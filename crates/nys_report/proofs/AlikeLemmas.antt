-- Two worlds of the rules that are one world of the program have one report.
use Rattle.std.proofs.Common.{◌≡◌, ℕ, suc, zero, ◌+◌, ◌<◌, ◌≤◌, ◌++◌, Bool, true, false, List, ◌∷◌, length, Option, Some, None, ap, refl, sym, ◌∙◌, arith}
use Rattle.std.specs.List.{range_with_len}
use Rattle.std.specs.Prelude.{codes}
use Rattle.nys_agreement.proofs.ListLemmas.{get_inside}
use Rattle.nys_hosts.specs.Sets.{has}
use Rattle.nys_node.specs.Means.{IsReplicaOf, Means}
use Rattle.nys_node.specs.declared.node.Node.{Node}
use Rattle.nys_replica.specs.declared.replica.Replica.{Replica}
use Rattle.nys_report.proofs.PickedLemmas.{picked}
use Rattle.nys_report.proofs.ShownLemmas.{node_there}
use Rattle.nys_report.proofs.SpelledLemmas.{printed_stopped}
use Rattle.nys_printed.specs.Lines.{guard_line, notes_text, run_and_hosts}
use Rattle.nys_printed.specs.Report.{guard_text, guards_text, replica_line, report, run_gives}
use Rattle.nys_report.specs.Parts.{stopped_run}
use Rattle.nys_rules.specs.Scope.{Scope}
use Rattle.nys_rules.specs.Spelling.{printed_run}
use Rattle.nys_rules.specs.View.{is_live, View}
use Rattle.nys_rules.specs.World.{is_honest, Setting, World}
use Rattle.nys_source.specs.Runs.{host_at}
use Rattle.nys_source.specs.declared.step.Step.{Step}
use Rattle.nys_world.specs.Shows.{Shows}
use Rattle.nys_world.specs.declared.moment.Moment.{Moment}

-- where the same hosts of a range pass two tests, and the same is printed of each, the same is printed of all
picked_alike : {A : Type 0} (f k : ℕ → List A) (p q : ℕ → Bool) (first count below : ℕ) → first + count ≤ below
    → ((h : ℕ) → h < below → p h ≡ q h) → ((h : ℕ) → h < below → p h ≡ true → f h ≡ k h)
    → picked f p (range_with_len first count) ≡ picked k q (range_with_len first count)
picked_alike f k p q first zero below inside same prints = refl
picked_alike f k p q first (suc count) below inside same prints =
    go (p first) refl (picked_alike f k p q (first + 1) count below (omega (arith, inside)) same prints)
  where
    here : first < below
    here = omega (arith, inside)

    go : (b : Bool) → p first ≡ b → picked f p (range_with_len (first + 1) count) ≡ picked k q (range_with_len (first + 1) count)
        → picked f p (first ∷ range_with_len (first + 1) count) ≡ picked k q (first ∷ range_with_len (first + 1) count)
    go true e rest = rw (← same first here, e) (ap (λ t. t ++ picked f p (range_with_len (first + 1) count)) (prints first here e) ∙ ap (λ t. k first ++ t) rest)
    go false e rest = rw (← same first here, e) rest

-- one node has logs of one length of each host, and knows it or not
same_length : {P S : Type 0} (scope : Scope S) (node : Node P S) (a b : View) (h : ℕ) → h < 32 → Means scope node a → Means scope node b
    → (length (a.logs h) ≡ length (b.logs h)) × (a.known h ≡ b.known h)
same_length {P} {S} scope node a b h below first second =
    let found = get_inside node.replicas.items h (omega (arith, below, first.rows)) in
    go found.0 (first.replicas h found.0 found.1) (second.replicas h found.0 found.1)
  where
    go : (replica : Option (Replica P S)) → IsReplicaOf scope.rules h replica (a.logs h) (a.kept_from h) (a.known h)
        → IsReplicaOf scope.rules h replica (b.logs h) (b.kept_from h) (b.known h) → (length (a.logs h) ≡ length (b.logs h)) × (a.known h ≡ b.known h)
    go None one other = (ap (λ log. length log) (one.0 ∙ sym other.0), one.1 ∙ sym other.1)
    go (Some replica) one other = (sym one.0.count ∙ other.0.count, one.1 ∙ sym other.1)

-- both worlds have one printed run
same_run : {P S : Type 0} {traced : Bool} (setting : Setting S) (moment : Moment P S) (w v : World) → Shows setting traced moment w → Shows setting traced moment v
    → printed_run setting.scope w ≡ printed_run setting.scope v
same_run setting moment w v first second =
    let retired = has moment.olympus.retired in
    printed_stopped setting.scope w retired first.olympus.means.retired
    ∙ ap (λ run. stopped_run setting.scope.rules.hosts retired run) (sym first.books.run ∙ second.books.run)
    ∙ sym (printed_stopped setting.scope v retired second.olympus.means.retired)

-- of one length and one run one line is printed
same_line : {S : Type 0} (setting : Setting S) (w v : World) (g h : ℕ) → printed_run setting.scope w ≡ printed_run setting.scope v
    → is_live setting.scope (w.nodes g) h ≡ is_live setting.scope (v.nodes g) h → length ((w.nodes g).logs h) ≡ length ((v.nodes g).logs h)
    → replica_line setting.scope (run_gives setting w (w.nodes g)) g (w.nodes g) h ≡ replica_line setting.scope (run_gives setting v (v.nodes g)) g (v.nodes g) h
same_line setting w v g h run live count =
    let rules = setting.scope.rules in
    let line = λ (r : List Step) (l : Bool) (n : ℕ). guard_line g h l n (rules.view (host_at rules r h n).0) (host_at rules r h n).1 in
    ap (λ r. line r (is_live setting.scope (w.nodes g) h) (length ((w.nodes g).logs h))) run
    ∙ ap (λ l. line (printed_run setting.scope v) l (length ((w.nodes g).logs h))) live
    ∙ ap (λ n. line (printed_run setting.scope v) (is_live setting.scope (v.nodes g) h) n) count

-- the node of an honest host has the same lines in both worlds
same_lines : {P S : Type 0} {traced : Bool} (setting : Setting S) (moment : Moment P S) (w v : World) (g : ℕ) → setting.scope.rules.hosts ≤ 32 → g < 32
    → is_honest setting g ≡ true → Shows setting traced moment w → Shows setting traced moment v → guard_text setting w g ≡ guard_text setting v g
same_lines setting moment w v g few below honest first second =
    let there = node_there setting moment.nodes.items w g below honest first.nodes in
    let one = there.2.means in
    let other = (second.nodes.each g (Some there.0) there.1).1.means in
    picked_alike (replica_line setting.scope (run_gives setting w (w.nodes g)) g (w.nodes g))
    (replica_line setting.scope (run_gives setting v (v.nodes g)) g (v.nodes g)) (w.nodes g).known (v.nodes g).known
    0 setting.scope.rules.hosts 32 (omega (arith, few))
    (λ h inside. (same_length setting.scope there.0 (w.nodes g) (v.nodes g) h inside one other).1)
    (λ h inside known. same_line setting w v g h (same_run setting moment w v first second) (sym (one.live h) ∙ other.live h)
    (same_length setting.scope there.0 (w.nodes g) (v.nodes g) h inside one other).0)

-- so have all of them
same_guards : {P S : Type 0} {traced : Bool} (setting : Setting S) (moment : Moment P S) (w v : World) → setting.scope.rules.hosts ≤ 32
    → Shows setting traced moment w → Shows setting traced moment v → guards_text setting w ≡ guards_text setting v
same_guards setting moment w v few first second =
    picked_alike (guard_text setting w) (guard_text setting v) (is_honest setting) (is_honest setting) 0 setting.scope.rules.hosts 32 (omega (arith, few))
    (λ g inside. refl) (λ g inside honest. same_lines setting moment w v g few inside honest first second)

-- both worlds have one report
pub same_report : {P S : Type 0} {traced : Bool} (setting : Setting S) (moment : Moment P S) (w v : World) → setting.scope.rules.hosts ≤ 32
    → Shows setting traced moment w → Shows setting traced moment v → report setting w ≡ report setting v
unfolding report
same_report setting moment w v few first second =
    let rules = setting.scope.rules in
    let told = λ (run : List Step) (guards notes : List ℕ).
    run_and_hosts rules run ++ (codes "guards\n" ++ (guards ++ (codes "notes\n" ++ (notes ++ codes "end\n")))) in
    ap (λ run. told run (guards_text setting w) (notes_text w.notes)) (same_run setting moment w v first second)
    ∙ ap (λ guards. told (printed_run setting.scope v) guards (notes_text w.notes)) (same_guards setting moment w v few first second)
    ∙ ap (λ notes. told (printed_run setting.scope v) (guards_text setting v) (notes_text notes)) (sym first.books.notes ∙ second.books.notes)
