-- Events that happen one after another, some of them by now.
use Rattle.std.proofs.Common.{◌≡◌, List, [], ◌∷◌, Ok, Err, refl, map, sym, subst}
use Rattle.std.specs.Prelude.{Result}
use Rattle.nys_rules.specs.declared.event.Event.{Event}
use Rattle.nys_rules.specs.declared.notice.End.{End}
use Rattle.nys_rules.specs.Events.{plain}
use Rattle.nys_rules.specs.Happening.{HappenAll, Happens}
use Rattle.nys_rules.specs.World.{World}
use Rattle.nys_source.specs.Rules.{Rules}
use Rattle.nys_world.specs.Shows.{setting_of, ShowsOn}
use Rattle.nys_world.specs.declared.moment.Moment.{Moment}
use Rattle.nys_world.specs.declared.stage.Stage.{Stage}

-- the moment shows a world in which the events that are left do what all of them do in the first world
pub record GoesOn {P S : Type 0} (rules : Rules S) (stage : Stage P S) (first : World) (all left : List Event) (now : Moment P S) : Type 0 where
  pub world : World
  pub shows : ShowsOn rules stage now world
  pub rest : (result : Result World End) → HappenAll (setting_of rules stage) world (map plain left) result
      → HappenAll (setting_of rules stage) first (map plain all) result

-- no event happened
pub goes_first : {P S : Type 0} (rules : Rules S) (stage : Stage P S) (first : World) (all left : List Event) (now : Moment P S)
    → left ≡ all → ShowsOn rules stage now first → GoesOn rules stage first all left now
goes_first rules stage first all left now same shows = record {
  world = first;
  shows = shows;
  rest = λ result happen. subst (λ (events : List Event). HappenAll (setting_of rules stage) first (map plain events) result) same happen;
}

-- one event more happened
pub goes_more : {P S : Type 0} (rules : Rules S) (stage : Stage P S) (first : World) (all left rest : List Event) (event : Event)
    (before after : Moment P S) → left ≡ event ∷ rest → (on : GoesOn rules stage first all left before) → (next : World)
    → Happens (setting_of rules stage) on.world (plain event) (Ok next) → ShowsOn rules stage after next → GoesOn rules stage first all rest after
goes_more rules stage first all left rest event before after same on next happens shows = record {
  world = next;
  shows = shows;
  rest = λ result happen. on.rest result
      (subst (λ (events : List Event). HappenAll (setting_of rules stage) on.world (map plain events) result) (sym same) (Ok next, happens, happen));
}

-- the next event is the end
pub goes_wrong : {P S : Type 0} (rules : Rules S) (stage : Stage P S) (first : World) (all left rest : List Event) (event : Event)
    (before : Moment P S) → left ≡ event ∷ rest → (on : GoesOn rules stage first all left before) → (why : End)
    → Happens (setting_of rules stage) on.world (plain event) (Err why) → HappenAll (setting_of rules stage) first (map plain all) (Err why)
goes_wrong rules stage first all left rest event before same on why happens =
    on.rest (Err why)
    (subst (λ (events : List Event). HappenAll (setting_of rules stage) on.world (map plain events) (Err why)) (sym same) (Err why, happens, refl))

-- no event is left
pub goes_last : {P S : Type 0} (rules : Rules S) (stage : Stage P S) (first : World) (all left : List Event) (now : Moment P S)
    → left ≡ [] → (on : GoesOn rules stage first all left now) → HappenAll (setting_of rules stage) first (map plain all) (Ok on.world)
goes_last rules stage first all left now same on =
    on.rest (Ok on.world)
    (subst (λ (events : List Event). HappenAll (setting_of rules stage) on.world (map plain events) (Ok on.world)) (sym same) refl)
