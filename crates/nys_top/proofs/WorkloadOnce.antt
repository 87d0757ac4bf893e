-- What `workload` answers is one thing: the guards that are planned are seen as one, so the scenario is one, and what is
-- drawn in it has one outcome.
use Rattle.std.proofs.Common.{◌≡◌, ℕ, ◌+◌, List, [], ◌∷◌, length, Result, Ok, Err, refl, sym, ap, subst, ◌∙◌, arith}
use Rattle.std.specs.Prelude.{replicate}
use Rattle.nys_answer.specs.declared.answer.Answer.{Answer}
use Rattle.nys_answer.specs.declared.status.Status.TheVariants.{Done}
use Rattle.nys_native.specs.Floods.{flood_rules}
use Rattle.nys_native.specs.declared.total.Total.{Total}
use Rattle.nys_rules.proofs.WorldLemmas.{happens_once}
use Rattle.nys_rules.specs.Events.{Plain}
use Rattle.nys_rules.specs.Happening.{Happens, Then}
use Rattle.nys_rules.specs.World.{fresh_world, Setting, World}
use Rattle.nys_rules.specs.declared.notice.End.{End}
use Rattle.nys_scenario.specs.Hosts.{nobody}
use Rattle.nys_scenario.specs.declared.limits.TheConstants.{MASTER_BYTES}
use Rattle.nys_words.specs.declared.request.Workload.{Workload}
use Rattle.nys_workload.specs.Drawn.{first_dice, next_dice}
use Rattle.nys_workload.specs.Inputs.{inputs_in}
use Rattle.nys_workload.specs.Rings.{ring_linked}
use Rattle.nys_workload.specs.declared.dice.Dice.{Dice}
use Rattle.nys_workload_command.specs.Answered.{HappenDrawn, IsDrawnAnswer, IsOutcomeAnswer, IsSettingOf, IsWorkloadAnswer, the_epoch}
use Rattle.nys_workload_command.specs.Summary.{summary}
use Rattle.nys_top.proofs.GuardsOnce.{graphs_once}
use Rattle.nys_top.proofs.ReplayOnce.{end_once, setting_once}

-- the scenario of the ring is one
settings_once : (hosts : ℕ) (one other : Setting Total) → IsSettingOf hosts one → IsSettingOf hosts other → one ≡ other
settings_once hosts one other p q =
    let seen_once = graphs_once hosts (ring_linked hosts) (the_epoch ∷ []) p.graphs q.graphs p.planned q.planned in
    p.same ∙ setting_once (flood_rules hosts (ring_linked hosts)) p.graphs q.graphs (replicate MASTER_BYTES 0) nobody seen_once ∙ sym q.same

-- two lists of events have one outcome, and are one where it is a world
abbrev AreOne : (a b : Result World End) → (ones others : List Plain) → Type 0
AreOne a b ones others = (a ≡ b) × ((w : World) → a ≡ Ok w → ones ≡ others)

-- the first events are one, and the rest where they lead to a world
then_one : (mid a b : Result World End) (x y : Plain) (xs ys : List Plain) (Rest : World → List Plain → Result World End → Type 0) → x ≡ y
    → ((next : World) → Rest next xs a → Rest next ys b → AreOne a b xs ys)
    → Then mid a (λ next. Rest next xs a) → Then mid b (λ next. Rest next ys b) → AreOne a b (x ∷ xs) (y ∷ ys)
then_one (Ok next) a b x y xs ys Rest same rest t u =
    let r = rest next t u in (r.0, λ w is. ap (λ e. e ∷ xs) same ∙ ap (λ es. y ∷ es) (r.1 w is))
then_one (Err end) a b x y xs ys Rest same rest t u = (t ∙ sym u, λ w is. absurd (let at_end = t in let at_world = is in cc))

-- as many events that are drawn are one, with one outcome
drawn_once : {S : Type 0} (setting : Setting S) (hosts : ℕ) (dice : Dice) (place : ℕ) (w : World) (ones others : List Plain) (a b : Result World End)
    → length ones ≡ length others → HappenDrawn setting hosts dice place w ones a → HappenDrawn setting hosts dice place w others b → AreOne a b ones others
drawn_once setting hosts dice place w [] [] a b even p q = (p ∙ sym q, λ next is. refl)
drawn_once setting hosts dice place w [] (y ∷ ys) a b even p q = absurd (omega (arith, even))
drawn_once setting hosts dice place w (x ∷ xs) [] a b even p q = absurd (omega (arith, even))
drawn_once setting hosts dice place w (x ∷ xs) (y ∷ ys) a b even p q =
    let same : x ≡ y = p.0 ∙ sym q.0 in
    let mids : p.1.0 ≡ q.1.0 = happens_once setting w x p.1.0 q.1.0 p.1.1 (subst (λ e. Happens setting w e q.1.0) (sym same) q.1.1) in
    let rest : length xs ≡ length ys = omega (arith, even) in
    then_one p.1.0 a b x y xs ys (λ next events result. HappenDrawn setting hosts (next_dice dice) (place + 1) next events result) same
    (λ next. drawn_once setting hosts (next_dice dice) (place + 1) next xs ys a b rest)
    p.1.2 (subst (λ mid. Then mid b (λ next. HappenDrawn setting hosts (next_dice dice) (place + 1) next ys b)) (sym mids) q.1.2)

-- what is answered to an outcome is one
outcomes_once : {S : Type 0} (drawing : Workload) (setting : Setting S) (ones others : List Plain) (outcome : Result World End) (x y : Answer)
    → ((w : World) → outcome ≡ Ok w → ones ≡ others) → IsOutcomeAnswer drawing setting ones outcome x → IsOutcomeAnswer drawing setting others outcome y → x ≡ y
outcomes_once drawing setting ones others (Ok w) x y same p q =
    p ∙ ap (λ es. record { status = Done; text = summary drawing.seed drawing.hosts drawing.events (inputs_in es) setting w }) (same w refl) ∙ sym q
outcomes_once drawing setting ones others (Err end) x y same p q = end_once end x y p q

-- and to what is drawn in a scenario
drawings_once : {S : Type 0} (drawing : Workload) (setting : Setting S) (x y : Answer) → IsDrawnAnswer drawing setting x → IsDrawnAnswer drawing setting y → x ≡ y
drawings_once drawing setting x y p q =
    let one = drawn_once setting drawing.hosts (first_dice drawing.seed) 0 (fresh_world setting) p.drawn.events q.drawn.events p.outcome q.outcome
    (p.drawn.many ∙ sym q.drawn.many) p.drawn.happen q.drawn.happen in
    outcomes_once drawing setting p.drawn.events q.drawn.events p.outcome x y one.1 p.given
    (subst (λ o. IsOutcomeAnswer drawing setting q.drawn.events o y) (sym one.0) q.given)

-- what `workload` answers is one
pub workload_once : (drawing : Workload) (x y : Answer) → IsWorkloadAnswer drawing x → IsWorkloadAnswer drawing y → x ≡ y
workload_once drawing x y p q =
    let same = settings_once drawing.hosts p.setting q.setting p.setting_is q.setting_is in
    drawings_once drawing p.setting x y p.given (subst (λ setting. IsDrawnAnswer drawing setting y) (sym same) q.given)
