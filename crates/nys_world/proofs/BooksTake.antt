-- A record that a party took, forged or not.
use Rattle.std.proofs.Common.{◌≡◌, ℕ, List, Some, None, Err, refl, ap, inl, inr}
use Rattle.std.specs.Prelude.{Option, Result, ◌⊎◌}
use Rattle.nys_source.specs.Tables.{put}
use Rattle.nys_stmt.specs.declared.statement.Statement.{Statement}
use Rattle.nys_rules.specs.declared.notice.End.{End}
use Rattle.nys_rules.specs.declared.notice.End.TheVariants.{NoMemory}
use Rattle.nys_rules.specs.declared.notice.Take.{Take}
use Rattle.nys_rules.specs.Forged.{with_made}
use Rattle.nys_rules.specs.Happening.{UnlessForged}
use Rattle.nys_rules.specs.Olympus.{OlympusView}
use Rattle.nys_rules.specs.Packets.{Acts, Done, Sent}
use Rattle.nys_rules.specs.Scope.{olympus}
use Rattle.nys_rules.specs.View.{View}
use Rattle.nys_rules.specs.World.{after_node, after_olympus, Setting, with_grown, with_packets, World}
use Rattle.nys_world.specs.Forgeries.{AreTrueWhere, TellsForged}
use Rattle.nys_world.specs.Outcomes.{Happened}
use Rattle.nys_world.proofs.BooksHappen.{may_end}

-- a node that did the same leaves the same world
pub after_node_same : (g : ℕ) (v : View) (a b : Done) (w : World) → a.acts ≡ b.acts → after_node g v a w ≡ after_node g v b w
unfolding after_node
after_node_same g v a b w same =
    ap (λ (acts : Acts). with_packets acts.packets
    (with_grown v acts.grew (record w { nodes = put w.nodes g v; ledger = with_made g acts.made w.ledger }))) same

-- so does the Olympus
pub after_olympus_same : (o : OlympusView) (a b : Done) (w : World) → a.acts ≡ b.acts → after_olympus o a w ≡ after_olympus o b w
unfolding after_olympus
after_olympus_same o a b w same =
    ap (λ (acts : Acts). with_packets acts.packets (record w { olympus = o; ledger = with_made olympus acts.made w.ledger })) same

-- what a node did, part by part
pub acted_node : (g : ℕ) (v : View) (done : Done) (w : World) (made : List Statement) (grew : List (ℕ × ℕ)) (packets : List Sent)
    → made ≡ done.acts.made → grew ≡ done.acts.grew → packets ≡ done.acts.packets
    → with_packets packets (with_grown v grew (record w { nodes = put w.nodes g v; ledger = with_made g made w.ledger }))
    ≡ after_node g v done w
unfolding after_node
acted_node g v done w made grew packets a b p = rw (a, b, p) refl

-- what the Olympus did
pub acted_olympus : (o : OlympusView) (done : Done) (w : World) (made : List Statement) (packets : List Sent)
    → made ≡ done.acts.made → packets ≡ done.acts.packets
    → with_packets packets (record w { olympus = o; ledger = with_made olympus made w.ledger }) ≡ after_olympus o done w
unfolding after_olympus
acted_olympus o done w made packets a p = rw (a, p) refl

-- the world goes on where all is true
pub unless_true : {S : Type 0} (setting : Setting S) (w : World) (taker : ℕ) (said : Option Statement) (makers : List ℕ)
    (next result : Result World End) → AreTrueWhere setting w.ledger said makers → result ≡ next
    → UnlessForged setting w taker said makers next result
unless_true setting w taker None makers next result all e = e
unless_true setting w taker (Some statement) makers next result all e = inl (all, e)

-- it ends where a forgery is told
pub unless_told : {S : Type 0} (setting : Setting S) (w : World) (taker : ℕ) (said : Option Statement) (makers : List ℕ)
    (next : Result World End) (end : End) → TellsForged setting w.ledger w.events taker said makers end
    → UnlessForged setting w taker said makers next (Err end)
unless_told setting w taker None makers next end told = absurd told
unless_told setting w taker (Some statement) makers next end told = inr (told.0, end, told.1, told.2, refl)

-- what is told of a taking tells nothing of what was forged
pub unless_taken : {S : Type 0} (setting : Setting S) (w : World) (takes : List Take) (taker : ℕ) (said : Option Statement) (makers : List ℕ)
    (next result : Result World End) → UnlessForged setting (record w { takes = takes }) taker said makers next result
    → UnlessForged setting w taker said makers next result
unless_taken setting w takes taker None makers next result is = is
unless_taken setting w takes taker (Some statement) makers next result is = is

-- or there was no memory to tell it
pub told_end : {A S : Type 0} (Has : A → World → Type 0) (setting : Setting S) (w : World) (taker : ℕ) (said : Option Statement)
    (makers : List ℕ) (next : Result World End) (end : End)
    → ((end ≡ NoMemory) ⊎ TellsForged setting w.ledger w.events taker said makers end)
    → Happened Has (UnlessForged setting w taker said makers next) (Err end)
told_end Has setting w taker said makers next end told = elim told [
  | inl none ↦ rw none tt
  | inr ends ↦
      may_end Has (UnlessForged setting w taker said makers next) end (unless_told setting w taker said makers next end ends)
]
