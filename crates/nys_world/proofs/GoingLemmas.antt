-- What calls come to, and what packets come to that are given one after another.
use Rattle.std.proofs.Common.{ℕ, List, [], ◌∷◌, Ok, Err, refl}
use Rattle.std.specs.Prelude.{Result}
use Rattle.nys_rules.specs.declared.notice.End.{End}
use Rattle.nys_rules.specs.declared.notice.End.TheVariants.{NoPacket, Forged, Clash, PoolFull, NoMemory}
use Rattle.nys_rules.specs.Happening.{Delivers, DeliversAll}
use Rattle.nys_rules.specs.World.{World}
use Rattle.nys_source.specs.Rules.{Rules}
use Rattle.nys_world.specs.Given.{IsDelivering}
use Rattle.nys_world.specs.Outcomes.{Goes, Happened}
use Rattle.nys_world.specs.Shows.{IsShown, setting_of, ShowsOn}
use Rattle.nys_world.specs.declared.moment.Moment.{Moment}
use Rattle.nys_world.specs.declared.stage.Stage.{Stage}

-- an end to which the one may come is one to which the other may come
pub happened_end : {A B : Type 0} (Has : A → World → Type 0) (Had : B → World → Type 0) (may might : Result World End → Type 0) (end : End)
    → (may (Err end) → might (Err end)) → Happened Has may (Err end) → Happened Had might (Err end)
happened_end Has Had may might (NoPacket event packet have) on h = on h
happened_end Has Had may might (Forged event maker taker statement) on h = on h
happened_end Has Had may might (Clash event maker taker made taken) on h = on h
happened_end Has Had may might (PoolFull event packets bytes) on h = on h
happened_end Has Had may might NoMemory on h = tt

-- what may come of the one may come of the other
pub happened_weaker : {A : Type 0} (Has : A → World → Type 0) (may might : Result World End → Type 0) (result : Result A End)
    → ((r : Result World End) → may r → might r) → Happened Has may result → Happened Has might result
happened_weaker Has may might (Ok after) on h = (h.0, on (Ok h.0) h.1, h.2)
happened_weaker Has may might (Err end) on h = happened_end Has Has may might end (on (Err end)) h

-- so is what it has then, where that is had in another way
pub happened_on : {A : Type 0} (Has Had : A → World → Type 0) (may might : Result World End → Type 0) (result : Result A End)
    → ((r : Result World End) → may r → might r) → ((x : A) (next : World) → may (Ok next) → Has x next → Had x next)
    → Happened Has may result → Happened Had might result
happened_on Has Had may might (Ok x) on had h = (h.0, on (Ok h.0) h.1, had x h.0 h.1 h.2)
happened_on Has Had may might (Err end) on had h = happened_end Has Had may might end (on (Err end)) h

-- nothing was given yet
pub delivering_first : {P S : Type 0} (rules : Rules S) (stage : Stage P S) (first : Moment P S) (all : List ℕ) → IsShown rules stage first
    → IsDelivering rules stage first first all all
delivering_first rules stage first all shown = record { shown = shown; rest = λ after result goes. goes }

-- one more was given
pub delivering_next : {P S : Type 0} (rules : Rules S) (stage : Stage P S) (first now next : Moment P S) (all left : List ℕ) (k : ℕ)
    → IsDelivering rules stage first now all (k ∷ left) → Goes rules stage now next (λ here w. Delivers here w k) (Ok tt)
    → IsDelivering rules stage first next all left
delivering_next {P} {S} rules stage first now next all left k d given = record {
  shown = let t = given d.shown.0 d.shown.1 in (t.0, t.2);
  rest = λ after result goes. d.rest after result (λ w s.
      let setting = setting_of rules stage in
      let t = given w s in
      happened_weaker (λ (_ : Unit {0}) (later : World). ShowsOn rules stage after later) (λ r. DeliversAll setting t.0 left r)
      (λ r. DeliversAll setting w (k ∷ left) r) result (λ r later. (Ok t.0, t.1, later)) (goes t.0 t.2));
}

-- the world ended at one of them
pub delivering_stops : {P S : Type 0} (rules : Rules S) (stage : Stage P S) (first now after : Moment P S) (all left : List ℕ) (k : ℕ) (end : End)
    → IsDelivering rules stage first now all (k ∷ left) → Goes rules stage now after (λ here w. Delivers here w k) (Err end)
    → Goes rules stage first after (λ here w. DeliversAll here w all) (Err end)
delivering_stops {P} {S} rules stage first now after all left k end d given = d.rest after (Err end) (λ w s.
    let setting = setting_of rules stage in
    let Has = λ (_ : Unit {0}) (later : World). ShowsOn rules stage after later in
    happened_end Has Has (λ r. Delivers setting w k r) (λ r. DeliversAll setting w (k ∷ left) r) end
    (λ one. (Err end, one, refl)) (given w s))

-- all were given
pub delivering_ends : {P S : Type 0} (rules : Rules S) (stage : Stage P S) (first now : Moment P S) (all : List ℕ)
    → IsDelivering rules stage first now all [] → Goes rules stage first now (λ here w. DeliversAll here w all) (Ok tt)
delivering_ends rules stage first now all d = d.rest now (Ok tt) (λ w s. (w, refl, s))
