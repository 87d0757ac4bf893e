-- What one event makes of what a ring keeps.
use Rattle.std.proofs.Common.{ℕ, ◌+◌, ◌≤◌, ◌≡◌, ◌≢◌, List, [], ◌∷◌, ◌++◌, Ok, Err, refl, sym, ap, subst, ◌∙◌, length, append-nil}
use Rattle.std.specs.Prelude.{All, Result}
use Rattle.std.proofs.lemmas.List.{map-append, length-append}
use Rattle.std.proofs.lemmas.List.Elements.{All-append, All-cons, All-nil}
use Rattle.std.proofs.lemmas.Grind.{flat_map-append}
use Rattle.nys_bare.specs.declared.read.TheConstants.{MAX_EVENTS}
use Rattle.nys_rules.specs.declared.event.Event.{Event}
use Rattle.nys_rules.specs.declared.notice.End.{End}
use Rattle.nys_rules.specs.declared.notice.End.TheVariants as ends
use Rattle.nys_rules.specs.Events.{Plain, plain}
use Rattle.nys_rules.specs.Happening.{HappenAll, Happens}
use Rattle.nys_rules.specs.World.{World}
use Rattle.nys_schedule_text.specs.EventLines.{event_line, event_lines}
use Rattle.nys_source.specs.Rules.{Rules}
use Rattle.nys_world.specs.Outcomes as outcomes
use Rattle.nys_world.specs.Shows.{setting_of}
use Rattle.nys_world.specs.Worlds.{IsWorldOf}
use Rattle.nys_world.specs.declared.world.World as made
use Rattle.nys_world.proofs.EventCounts.{happens_count}
use Rattle.nys_world.proofs.ReachedWorlds.{happen_more, happen_one}
use Rattle.nys_ring.specs.declared.course.TheConstants.{MAX_SCHEDULE}
use Rattle.nys_ring.specs.declared.course.Course.{Course}
use Rattle.nys_ring.specs.declared.fault.RingFault.{RingFault}
use Rattle.nys_ring.specs.declared.fault.RingFault.TheVariants as faults
use Rattle.nys_ring.specs.Courses.{IsCourse, IsRefused, IsRingPlain, plains, Tells}

-- one event more
pub plains_more : (events more : List Event) (copy event : Event) → more ≡ events ++ copy ∷ [] → plain copy ≡ plain event
    → plains more ≡ plains events ++ plain event ∷ []
plains_more events more copy event same is =
    ap plains same ∙ map-append plain events (copy ∷ []) ∙ ap (λ z. plains events ++ z ∷ []) is

-- one line more
pub lines_more : (before : List Plain) (event : Plain)
    → length (event_lines (before ++ event ∷ [])) ≡ length (event_lines before) + length (event_line event)
lines_more before event =
    ap length (flat_map-append event_line before (event ∷ []))
    ∙ ap (λ z. length (event_lines before ++ z)) (append-nil (event_line event))
    ∙ length-append (event_lines before) (event_line event)

-- the course after one event more
pub course_more : {P S : Type 0} (rules : Rules S) (first w after : World) (before next : Course P S) (copy event : Event) (line : ℕ)
    → IsCourse rules first w before → next.world.stage ≡ before.world.stage → IsWorldOf rules next.world after
    → Happens (setting_of rules before.world.stage) w (plain event) (Ok after)
    → next.events.items ≡ before.events.items ++ copy ∷ [] → plain copy ≡ plain event
    → next.length ≡ before.length + line → line ≡ length (event_line (plain event))
    → length next.events.items ≤ MAX_EVENTS → next.length ≤ MAX_SCHEDULE → IsRingPlain rules.hosts (plain event)
    → IsCourse rules first after next
course_more rules first w after before next copy event line c stage shown happens same is longer sized few short ring =
    let setting = setting_of rules before.world.stage in
    let all : plains next.events.items ≡ plains before.events.items ++ plain event ∷ [] =
    plains_more before.events.items next.events.items copy event same is in
    let behind : HappenAll setting first (plains before.events.items ++ plain event ∷ []) (Ok after) =
    happen_more setting first w (plains before.events.items) (plain event ∷ []) (Ok after) c.happen (happen_one setting w after (plain event) happens) in
    let one : length next.events.items ≡ length before.events.items + 1 = ap length same ∙ length-append before.events.items (copy ∷ []) in
    let counted : after.events ≡ w.events + 1 = happens_count setting w after (plain event) happens in
    let text : length (event_lines (plains next.events.items)) ≡ length (event_lines (plains before.events.items)) + length (event_line (plain event)) =
    ap (λ z. length (event_lines z)) all ∙ lines_more (plains before.events.items) (plain event) in
    record {
      shown = shown;
      happen = subst (λ s. HappenAll (setting_of rules s) first (plains next.events.items) (Ok after)) (sym stage)
          (subst (λ z. HappenAll setting first z (Ok after)) (sym all) behind);
      count = counted ∙ ap (λ n. n + 1) c.count ∙ sym one;
      lines = longer ∙ ap (λ n. n + line) c.lines ∙ ap (λ n. length (event_lines (plains before.events.items)) + n) sized ∙ sym text;
      few = few;
      short = short;
      ring = subst (λ z. All (λ e. IsRingPlain rules.hosts (plain e)) z) (sym same)
          (All-append (λ e. IsRingPlain rules.hosts (plain e)) before.events.items (copy ∷ []) c.ring
          (All-cons (λ e. IsRingPlain rules.hosts (plain e)) copy [] (subst (IsRingPlain rules.hosts) (sym is) ring) (All-nil (λ e. IsRingPlain rules.hosts (plain e)))));
    }

-- an end that isn't want of memory came as the world may end
not_memory : {A : Type 0} (Has : A → World → Type 0) (may : Result World End → Type 0) (end : End) → (end ≢ ends.NoMemory)
    → outcomes.Happened Has may (Err end) → may (Err end)
not_memory Has may (ends.NoPacket event packet have) other happened = happened
not_memory Has may (ends.Forged event maker taker statement) other happened = happened
not_memory Has may (ends.Clash event maker taker made taken) other happened = happened
not_memory Has may (ends.PoolFull event packets bytes) other happened = happened
not_memory Has may ends.NoMemory other happened = absurd (other refl)

-- an event that ends the world is refused
pub course_ends : {P S : Type 0} (rules : Rules S) (course : Course P S) (first w : World) (told : List Plain) (event : Plain)
    (end : End) (fault : RingFault) → told ≡ plains course.events.items ++ event ∷ []
    → length (plains course.events.items ++ event ∷ []) ≤ MAX_EVENTS
    → length (event_lines (plains course.events.items ++ event ∷ [])) ≤ MAX_SCHEDULE
    → HappenAll (setting_of rules course.world.stage) first (plains course.events.items) (Ok w)
    → outcomes.Happened {A = made.World P S} (IsWorldOf {P = P} {S = S} rules) (Happens (setting_of rules course.world.stage) w event) (Err end)
    → Tells told course.lost end fault
    → IsRefused (setting_of rules course.world.stage) first (plains course.events.items ++ event ∷ []) course.lost fault
course_ends rules course first w told event end faults.Connect same few short happen happened tells = tells
course_ends {P} {S} rules course first w told event end (faults.End events count why) same few short happen happened tells =
    let setting = setting_of rules course.world.stage in
    let all = plains course.events.items ++ event ∷ [] in
    let ended : Happens setting w event (Err end) =
    not_memory (IsWorldOf {P = P} {S = S} rules) (Happens setting w event) end tells.3 happened in
    let behind : HappenAll setting first all (Err end) =
    happen_more setting first w (plains course.events.items) (event ∷ []) (Err end) happen (Err end, ended, refl) in
    (tells.0 ∙ same, tells.1, few, short, subst (λ z. HappenAll setting first all (Err z)) (sym tells.2) behind)
course_ends rules course first w told event end (faults.TooMany events count) same few short happen happened tells = absurd tells
course_ends rules course first w told event end (faults.TooLong events count) same few short happen happened tells = absurd tells
course_ends rules course first w told event end faults.NoMemory same few short happen happened tells = tt
