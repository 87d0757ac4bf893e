-- An input that waits at a node, and questions, which the machine doesn't know.
use Rattle.std.proofs.Common.{◌≡◌, ℕ, Bool, true, false, ℤ, List, [], ◌∷◌, ◌++◌, map, refl, ap, sym, subst, ◌∙◌}
use Rattle.std.specs.Prelude.{All, if◌then◌else◌}
use Rattle.std.proofs.lemmas.List.Elements.{All-append, All-cons, All-nil}
use Rattle.nys_source.specs.Tables.{put}
use Rattle.nys_agreement.specs.After.{after}
use Rattle.nys_agreement.specs.Events.Event.{Hands}
use Rattle.nys_agreement.specs.Assembly as machine
use Rattle.nys_agreement.proofs.TableLemmas.{put_case}
use Rattle.nys_stmt.specs.declared.statement.Body.TheVariants as body
use Rattle.nys_stmt.specs.declared.statement.Statement.{Statement}
use Rattle.nys_rules.specs.Asking.{asked_hosts, questions}
use Rattle.nys_rules.specs.Handling.{with_input}
use Rattle.nys_rules.specs.Packets.{Acts, all_joined, nothing}
use Rattle.nys_rules.specs.Sending.{made_for, to_guards}
use Rattle.nys_rules.specs.View.{length_of, View}
use Rattle.nys_rules.specs.World.{Setting, with_grown, World}
use Rattle.nys_laws.proofs.EventKeeping.{ActsAs}
use Rattle.nys_laws.proofs.GrownLemmas.{all_keep, each_given, JoinsKeep, with_step}
use Rattle.nys_follows.specs.Follows.{AreNodes, IsNode, IsRunOf, IsTruthful, part_of, Tracks}
use Rattle.nys_follows.proofs.OlympusLedger.{ledger_beside, StandsBeside}

-- the machine has this view of a node, with these inputs in its queue
abbrev HasNode : {S : Type 0} → Setting S → machine.Assembly → ℕ → View → List (List ℤ) → Type 0
HasNode setting m x v waits =
    IsNode setting x (part_of v) (m.epoch x) (m.wedged x) (m.log x) waits m.base m.live

-- it has the view of an honest node with an input more in its queue
input_node : {S : Type 0} (setting : Setting S) (w : World) (m : machine.Assembly) (g : ℕ) (v : View) (payload : List ℤ)
    → w.nodes g ≡ v → AreNodes setting w.nodes m → (x : ℕ) → x ≡ g → IsTruthful setting x
    → HasNode setting m x (with_input payload v) (m.waiting g ++ payload ∷ [])
input_node setting w m g v payload view k x here honest =
    let at = subst (λ y. w.nodes y ≡ v) (sym here) view in
    let was = subst (λ y. HasNode setting m x y (m.waiting x)) at (k.each x honest) in
    record {
      me = was.me;
      epoch_is = was.epoch_is;
      wedged_is = was.wedged_is;
      log_is = was.log_is;
      waiting_is = ap (λ queue. queue ++ payload ∷ []) (ap m.waiting (sym here) ∙ was.waiting_is);
      lives = was.lives;
      begins = was.begins;
    }

-- an input that waits at a node
pub input_tracks : {S : Type 0} (setting : Setting S) (w : World) (m : machine.Assembly) (g : ℕ) (v : View)
    (payload : List ℤ) → ActsAs setting w g v → Tracks setting w m
    → Tracks setting (with_step g (with_input payload v) nothing w) (after m (Hands g payload))
input_tracks {S} setting w m g v payload acting k = record {
  nodes = record { each = each; no_others = k.nodes.no_others };
  top = k.top;
  ledger = ledger_beside setting g [] w.ledger m.ledger m.top m.decided m.base m.live
      (All-nil (StandsBeside setting m.top m.decided m.base m.live)) k.ledger;
  run = k.run;
}
  where
    next : View
    next = with_input payload v

    queue : List (List ℤ)
    queue = m.waiting g ++ payload ∷ []

    each : (x : ℕ) → IsTruthful setting x → HasNode setting m x (put w.nodes g next x) (put m.waiting g queue x)
    each x honest =
        put_case (λ y. HasNode setting m x y (put m.waiting g queue x)) w.nodes g next x
        (λ here.
        put_case (HasNode setting m x next) m.waiting g queue x
        (λ same. input_node setting w m g v payload acting.view k.nodes x here honest)
        (λ ne. absurd (ne here)))
        (λ there.
        put_case (HasNode setting m x (w.nodes x)) m.waiting g queue x (λ here. absurd (there here))
        (λ ne. k.nodes.each x honest))

-- acts that log nothing and make no statement that the machine knows
record AreBeside {S : Type 0} (setting : Setting S) (m : machine.Assembly) (acts : Acts) : Type 0 where
  made : All (StandsBeside setting m.top m.decided m.base m.live) acts.made
  grew : acts.grew ≡ []

-- several such
beside_joins : {S : Type 0} (setting : Setting S) (m : machine.Assembly) → JoinsKeep (AreBeside setting m)
beside_joins setting m = record {
  none = record { made = All-nil (StandsBeside setting m.top m.decided m.base m.live); grew = refl };
  both = λ a b p q. record {
    made = All-append (StandsBeside setting m.top m.decided m.base m.live) a.made b.made p.made q.made;
    grew = ap (λ xs. xs ++ b.grew) p.grew ∙ q.grew;
  };
}

-- questions are such
questions_beside : {S : Type 0} (setting : Setting S) (m : machine.Assembly) (v : View)
    → AreBeside setting m (questions setting.scope v)
unfolding questions made_for
questions_beside {S} setting m v = by v.wedged
  where
    ask : ℕ → Acts
    ask h = to_guards setting.scope v h (body.Ask h (length_of v h))

    Beside : Statement → Type 0
    Beside = StandsBeside setting m.top m.decided m.base m.live

    by : (b : Bool) → AreBeside setting m (if b then nothing else all_joined (map ask (asked_hosts setting.scope v)))
    by true = (beside_joins setting m).none
    by false = all_keep (AreBeside setting m) (beside_joins setting m) (map ask (asked_hosts setting.scope v))
        (each_given (AreBeside setting m) ask (asked_hosts setting.scope v)
        (λ h. record { made = All-cons Beside _ [] tt (All-nil Beside); grew = refl }))

-- a node that asks changes nothing that the machine knows
pub asking_tracks : {S : Type 0} (setting : Setting S) (w : World) (m : machine.Assembly) (g : ℕ) (v : View)
    → ActsAs setting w g v → Tracks setting w m
    → Tracks setting (with_step g v (questions setting.scope v) w) m
asking_tracks {S} setting w m g v acting k = record {
  nodes = record {
    each = λ x honest.
        put_case (λ y. HasNode setting m x y (m.waiting x)) w.nodes g v x
        (λ here.
        subst (λ y. HasNode setting m x y (m.waiting x)) (ap w.nodes here ∙ acting.view) (k.nodes.each x honest))
        (λ there. k.nodes.each x honest);
    no_others = k.nodes.no_others;
  };
  top = k.top;
  ledger = ledger_beside setting g (questions setting.scope v).made w.ledger m.ledger m.top m.decided m.base m.live
      beside.made k.ledger;
  run = subst (λ grew. IsRunOf (with_grown v grew w).longest (with_grown v grew w).run m.longest m.run)
      (sym beside.grew) k.run;
}
  where
    beside : AreBeside setting m (questions setting.scope v)
    beside = questions_beside setting m v
