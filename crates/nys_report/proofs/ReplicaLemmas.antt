-- The replicas that a node has, and what is printed of them.
use Rattle.std.proofs.Common.{◌≡◌, ℕ, ◌++◌, Bool, true, false, List, [], ◌∷◌, length, Some, None, ap, sym, ◌∙◌}
use Rattle.std.proofs.lemmas.List.{append-nil}
use Rattle.std.specs.List.{range_with_len}
use Rattle.std.specs.Prelude.{slice_get}
use Rattle.nys_agreement.specs.Alone.{alone}
use Rattle.nys_node.specs.Means.{Means}
use Rattle.nys_config.specs.Scopes.{scope_of}
use Rattle.nys_node.specs.declared.node.Node.{Node}
use Rattle.nys_replica.specs.Stands.{StandsFor}
use Rattle.nys_config.specs.declared.config.Config.{Config}
use Rattle.nys_replica.specs.declared.replica.Replica.{Replica}
use Rattle.nys_printed.specs.Lines.{guard_line}
use Rattle.nys_printed.specs.Report.{replicas_of, replicas_text}
use Rattle.nys_report.specs.Parts.{log_gives}
use Rattle.nys_rules.specs.View.{is_live, View}
use Rattle.nys_source.specs.Rules.{Rules}

-- a replica that the node has stands for the log of its host, and the host is known
pub has_replica : {P S : Type 0} (rules : Rules S) (cx : Config P) (node : Node P S) (v : View) (h : ℕ) (replica : Replica P S)
    → Means (scope_of rules cx) node v → slice_get node.replicas.items h ≡ Some (Some replica)
    → StandsFor rules h replica (v.logs h) × (v.known h ≡ true)
unfolding scope_of
has_replica rules cx node v h replica means at = let is = means.replicas h (Some replica) at in (is.0, is.1)

-- where it has none, the host isn't known
pub has_none : {P S : Type 0} (rules : Rules S) (cx : Config P) (node : Node P S) (v : View) (h : ℕ)
    → Means (scope_of rules cx) node v → slice_get node.replicas.items h ≡ Some None → v.known h ≡ false
has_none rules cx node v h means at = (means.replicas h None at).1

-- nothing is printed of a host that isn't known
pub none_printed : {P S : Type 0} (rules : Rules S) (cx : Config P) (g : ℕ) (v : View) (h : ℕ) (before : List ℕ) → v.known h ≡ false
    → before ≡ before ++ replicas_of (scope_of rules cx) (log_gives (scope_of rules cx) v) g v (h ∷ [])
none_printed rules cx g v h before unknown = rw unknown (sym (append-nil before))

-- one line is printed of a host that is known
pub one_printed : {P S : Type 0} (rules : Rules S) (cx : Config P) (g : ℕ) (v : View) (h : ℕ) (live : Bool) (before after : List ℕ)
    → v.known h ≡ true → live ≡ is_live (scope_of rules cx) v h
    → after ≡ before ++ guard_line g h live (length (v.logs h)) (rules.view ((alone rules h (v.logs h)).state h)) ((alone rules h (v.logs h)).outs h)
    → after ≡ before ++ replicas_of (scope_of rules cx) (log_gives (scope_of rules cx) v) g v (h ∷ [])
unfolding scope_of
one_printed rules cx g v h live before after known is more =
    let line = λ (l : Bool). guard_line g h l (length (v.logs h)) (rules.view ((alone rules h (v.logs h)).state h)) ((alone rules h (v.logs h)).outs h) in
    rw known (more ∙ ap (λ l. before ++ line l) is ∙ ap (λ t. before ++ t) (sym (append-nil (line (is_live (scope_of rules cx) v h)))))

-- so many hosts are all of the protocol
pub all_printed : {P S : Type 0} (rules : Rules S) (cx : Config P) (g : ℕ) (v : View) (hosts : ℕ) (before after : List ℕ) → hosts ≡ rules.hosts
    → after ≡ before ++ replicas_of (scope_of rules cx) (log_gives (scope_of rules cx) v) g v (range_with_len 0 hosts)
    → after ≡ before ++ replicas_text (scope_of rules cx) (log_gives (scope_of rules cx) v) g v
unfolding scope_of
all_printed rules cx g v hosts before after all printed =
    printed ∙ ap (λ n. before ++ replicas_of (scope_of rules cx) (log_gives (scope_of rules cx) v) g v (range_with_len 0 n)) all
