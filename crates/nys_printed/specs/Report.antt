-- The report of a world: its printed run, every host after it, what guards have, and what was noted.
use Rattle.std.specs.Prelude.{ℕ, ◌++◌, ℤ, List, codes, filter}
use Rattle.std.specs.List.{flat_map}
use Rattle.nys_rules.specs.Olympus.{hosts_of}
use Rattle.nys_rules.specs.Scope.{Scope}
use Rattle.nys_rules.specs.Spelling.{printed_run}
use Rattle.nys_rules.specs.View.{is_live, length_of, View}
use Rattle.nys_rules.specs.World.{is_honest, Setting, World}
use Rattle.nys_source.specs.Runs.{host_at}
use Rattle.nys_printed.specs.Lines.{guard_line, notes_text, run_and_hosts}

-- the line of the replica of h at the node of g, where such a state and outputs are printed of each host
abbrev pub replica_line : {S : Type 0} → Scope S → (ℕ → S × List (List ℤ)) → ℕ → View → ℕ → List ℕ
replica_line scope held g v h =
    guard_line g h (is_live scope v h) (length_of v h) (scope.rules.view (held h).0) (held h).1

-- the lines of the replicas of these hosts that the node of g has, in order
abbrev pub replicas_of : {S : Type 0} → Scope S → (ℕ → S × List (List ℤ)) → ℕ → View → List ℕ → List ℕ
replicas_of scope held g v hosts = flat_map (replica_line scope held g v) (filter v.known hosts)

-- the lines of all replicas at the node of g, rising by host
abbrev pub replicas_text : {S : Type 0} → Scope S → (ℕ → S × List (List ℤ)) → ℕ → View → List ℕ
replicas_text scope held g v = replicas_of scope held g v (hosts_of scope)

-- the state and the outputs of a host in the printed run, after as many inputs and receives as the
-- log has entries
abbrev pub run_gives : {S : Type 0} → Setting S → World → View → ℕ → S × List (List ℤ)
run_gives setting w v h = host_at setting.scope.rules (printed_run setting.scope w) h (length_of v h)

-- the lines of the replicas of one honest host
abbrev pub guard_text : {S : Type 0} → Setting S → World → ℕ → List ℕ
guard_text setting w g = replicas_text setting.scope (run_gives setting w (w.nodes g)) g (w.nodes g)

-- the lines of the replicas of those of these hosts that are honest, in order
abbrev pub guards_of : {S : Type 0} → Setting S → World → List ℕ → List ℕ
guards_of setting w hosts = flat_map (guard_text setting w) (filter (is_honest setting) hosts)

-- the lines of the replicas of all honest hosts, rising
abbrev pub guards_text : {S : Type 0} → Setting S → World → List ℕ
guards_text setting w = guards_of setting w (hosts_of setting.scope)

-- the report
unfoldable pub report : {S : Type 0} → Setting S → World → List ℕ
report setting w =
    run_and_hosts setting.scope.rules (printed_run setting.scope w)
    ++ (codes "guards\n" ++ (guards_text setting w ++ (codes "notes\n" ++ (notes_text w.notes ++ codes "end\n"))))
