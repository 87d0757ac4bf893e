-- What stays of a world where a party acts, and what holds of worlds after events that hold it each.
use Rattle.std.proofs.Common.{◌≡◌, ℕ, ◌+◌, Bool, true, false, List, [], ◌∷◌, ◌++◌, Some, None, Ok, Err, refl, ap, sym, subst, ◌∙◌, inl, inr, append-nil}
use Rattle.std.specs.Prelude.{Option, length, Result, if◌then◌else◌, nat_lt, slice_get}
use Rattle.std.proofs.lemmas.List.{append_assoc}
use Rattle.nys_agreement.specs.Alone.{step_of}
use Rattle.nys_bytes.specs.declared.content.Content.{Content}
use Rattle.nys_source.specs.Tables.{put}
use Rattle.nys_stmt.specs.declared.statement.Statement.{Statement}
use Rattle.nys_rules.specs.declared.notice.End.{End}
use Rattle.nys_rules.specs.declared.notice.End.TheVariants.{PoolFull}
use Rattle.nys_rules.specs.Events.{Plain}
use Rattle.nys_rules.specs.Forged.{with_made}
use Rattle.nys_rules.specs.Happening.{AreTrue, Delivers, DeliversAll, HappenAll, Happens, Then, UnlessForged}
use Rattle.nys_rules.specs.Olympus.{OlympusView}
use Rattle.nys_rules.specs.Packets.{Done, Sent}
use Rattle.nys_rules.specs.Scope.{olympus}
use Rattle.nys_rules.specs.View.{View}
use Rattle.nys_rules.specs.World.{after_node, after_olympus, is_too_much, pool_bytes, Setting, with_decided, with_grown, with_packets, with_slot, World}

-- packets that had room stand behind the pool, and nothing else changed
pub packets_ok : (packets : List Sent) (w next : World) → with_packets packets w ≡ Ok next
    → next ≡ record w { pool = w.pool ++ packets }
packets_ok [] w next e =
    let same : w ≡ next = cc in sym same ∙ ap (λ pool. record w { pool = pool }) (sym (append-nil w.pool))
packets_ok (p ∷ packets) w next e =
    by (is_too_much w.pool p) e (λ ok. packets_ok packets (record w { pool = w.pool ++ p ∷ [] }) next ok)
  where
    by : (b : Bool) → (if b then Err (PoolFull w.events (length w.pool) (pool_bytes w.pool))
        else with_packets packets (record w { pool = w.pool ++ p ∷ [] })) ≡ Ok next
        → (with_packets packets (record w { pool = w.pool ++ p ∷ [] }) ≡ Ok next
        → next ≡ record w { pool = (w.pool ++ p ∷ []) ++ packets })
        → next ≡ record w { pool = w.pool ++ p ∷ packets }
    by true full rest = absurd (cc)
    by false ok rest = rest ok ∙ ap (λ pool. record w { pool = pool }) (append_assoc w.pool (p ∷ []) packets)

-- a logged entry changes how long the longest log is, and the run
slot_frame : (h slot : ℕ) (entry : Option Content) (w : World) → with_slot h slot entry w
    ≡ record w { longest = (with_slot h slot entry w).longest; run = (with_slot h slot entry w).run }
slot_frame h slot None w = refl
slot_frame h slot (Some content) w = by (nat_lt slot (w.longest h))
  where
    grown : World
    grown = record w { longest = put w.longest h (slot + 1); run = w.run ++ step_of h content ∷ [] }

    by : (b : Bool) → (if b then w else grown)
        ≡ record w { longest = (if b then w else grown).longest; run = (if b then w else grown).run }
    by true = refl
    by false = refl

-- so do several
pub grown_frame : (v : View) (grew : List (ℕ × ℕ)) (w : World)
    → with_grown v grew w ≡ record w { longest = (with_grown v grew w).longest; run = (with_grown v grew w).run }
grown_frame v [] w = refl
grown_frame v (x ∷ grew) w =
    let entry = slice_get (v.logs x.0) x.1 in
    let mid = with_slot x.0 x.1 entry w in
    let after = with_grown v grew mid in
    grown_frame v grew mid
    ∙ ap (λ (z : World). record z { longest = after.longest; run = after.run }) (slot_frame x.0 x.1 entry w)

-- so do decided entries
pub decided_frame : (h slot : ℕ) (contents : List Content) (w : World) → with_decided h slot contents w
    ≡ record w { longest = (with_decided h slot contents w).longest; run = (with_decided h slot contents w).run }
decided_frame h slot [] w = refl
decided_frame h slot (content ∷ contents) w =
    let mid = with_slot h slot (Some content) w in
    let after = with_decided h (slot + 1) contents mid in
    decided_frame h (slot + 1) contents mid
    ∙ ap (λ (z : World). record z { longest = after.longest; run = after.run }) (slot_frame h slot (Some content) w)

-- the world in which a node has a new view, and what it made is in the ledger
abbrev pub with_acted : ℕ → View → Done → World → World
with_acted g v done w = record w { nodes = put w.nodes g v; ledger = with_made g done.acts.made w.ledger }

-- a node that acted has these, its packets are in the pool, and what it logged may be run
pub after_node_ok : (g : ℕ) (v : View) (done : Done) (w next : World) → after_node g v done w ≡ Ok next
    → next ≡ record (with_acted g v done w) {
      pool = w.pool ++ done.acts.packets;
      longest = (with_grown v done.acts.grew (with_acted g v done w)).longest;
      run = (with_grown v done.acts.grew (with_acted g v done w)).run;
    }
unfolding after_node
after_node_ok g v done w next e =
    packets_ok done.acts.packets (with_grown v done.acts.grew (with_acted g v done w)) next e
    ∙ ap (λ (z : World). record z { pool = z.pool ++ done.acts.packets })
    (grown_frame v done.acts.grew (with_acted g v done w))

-- the Olympus that acted
pub after_olympus_ok : (o : OlympusView) (done : Done) (w next : World) → after_olympus o done w ≡ Ok next
    → next ≡ record w {
      olympus = o;
      ledger = with_made olympus done.acts.made w.ledger;
      pool = w.pool ++ done.acts.packets;
    }
unfolding after_olympus
after_olympus_ok o done w next e =
    packets_ok done.acts.packets (record w { olympus = o; ledger = with_made olympus done.acts.made w.ledger }) next e

-- what was accepted where no forgery ended the world
abbrev pub TrueWhere : {S : Type 0} → Setting S → World → Option Statement → List ℕ → Type 0
TrueWhere setting w None makers = Unit {0}
TrueWhere setting w (Some statement) makers = AreTrue setting w.ledger statement makers

-- a world that goes on has no forgery
pub unless_forged_ok : {S : Type 0} (setting : Setting S) (w : World) (taker : ℕ) (said : Option Statement) (makers : List ℕ)
    (next : Result World End) (after : World) → UnlessForged setting w taker said makers next (Ok after)
    → TrueWhere setting w said makers × (next ≡ Ok after)
unless_forged_ok setting w taker None makers next after e = (tt, sym e)
unless_forged_ok setting w taker (Some statement) makers next after e = elim e [
  | inl true_all ↦ (true_all.0, sym true_all.1)
  | inr forged ↦ absurd (let ends = forged.4 in cc)
]

-- packets that each keep a fact keep it
pub delivers_all_keep : {S : Type 0} (setting : Setting S) (Fact : World → Type 0)
    → ((w next : World) (k : ℕ) → Delivers setting w k (Ok next) → Fact w → Fact next)
    → (w after : World) (ks : List ℕ) → DeliversAll setting w ks (Ok after) → Fact w → Fact after
delivers_all_keep setting Fact keep w after [] d f = let same : after ≡ w = cc in subst Fact (sym same) f
delivers_all_keep {S} setting Fact keep w after (k ∷ ks) d f =
    by d.0 d.1 d.2 (λ next rest given. delivers_all_keep setting Fact keep next after ks rest given)
  where
    by : (mid : Result World End) → Delivers setting w k mid → Then mid (Ok after) (λ next. DeliversAll setting next ks (Ok after))
        → ((next : World) → DeliversAll setting next ks (Ok after) → Fact next → Fact after) → Fact after
    by (Ok next) given rest later = later next rest (keep w next k given f)
    by (Err end) given rest later = absurd (cc)

-- events that each keep a fact keep it
pub happen_keep : {S : Type 0} (setting : Setting S) (Fact : World → Type 0)
    → ((w next : World) (event : Plain) → Happens setting w event (Ok next) → Fact w → Fact next)
    → (w after : World) (events : List Plain) → HappenAll setting w events (Ok after) → Fact w → Fact after
happen_keep setting Fact keep w after [] h f = let same : after ≡ w = cc in subst Fact (sym same) f
happen_keep {S} setting Fact keep w after (event ∷ events) h f =
    by h.0 h.1 h.2 (λ next rest given. happen_keep setting Fact keep next after events rest given)
  where
    by : (mid : Result World End) → Happens setting w event mid → Then mid (Ok after) (λ next. HappenAll setting next events (Ok after))
        → ((next : World) → HappenAll setting next events (Ok after) → Fact next → Fact after) → Fact after
    by (Ok next) happens rest later = later next rest (keep w next event happens f)
    by (Err end) happens rest later = absurd (cc)
