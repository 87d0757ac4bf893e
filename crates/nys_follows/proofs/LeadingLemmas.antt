-- Events of the machine, one after another, and what its laws say wherever they lead.
use Rattle.std.proofs.Common.{◌≡◌, ℕ, List, [], ◌∷◌, ◌++◌, refl, sym, subst, ◌∙◌, ap}
use Rattle.nys_source.specs.Rules.{Rules}
use Rattle.nys_agreement.specs.Net.{Net}
use Rattle.nys_agreement.specs.Assembly as machine
use Rattle.nys_agreement.specs.Events.{Enabled, Event}
use Rattle.nys_agreement.specs.After.{after, after_all, Follows}
use Rattle.nys_agreement.proofs.Spelling.{Kept, kept}
use Rattle.nys_rules.specs.Premises.{net_of}
use Rattle.nys_rules.specs.World.{Setting}
use Rattle.nys_follows.specs.Follows.{IsFollowable, LeadsTo, Reached}

-- what two lists make, one after the other
after_both : (m : machine.Assembly) (some more : List Event)
    → after_all m (some ++ more) ≡ after_all (after_all m some) more
after_both m [] more = refl
after_both m (event ∷ some) more = after_both (after m event) some more

-- both may happen
follows_both : {S : Type 0} (rules : Rules S) (net : Net) (m : machine.Assembly) (some more : List Event)
    → Follows rules net m some → Follows rules net (after_all m some) more → Follows rules net m (some ++ more)
follows_both rules net m [] more p q = q
follows_both rules net m (event ∷ some) more p q =
    (p.0, follows_both rules net (after m event) some more p.1 q)

-- events that hand nothing to a host lead to an assembly of the machine of which the fact holds
pub record LeadsStill {S : Type 0} (setting : Setting S) (m : machine.Assembly) (Fact : machine.Assembly → Type 0) : Type 0 where
  pub events : List Event
  pub follows : Follows setting.scope.rules (net_of setting) m events
  pub fact : Fact (after_all m events)
  pub still : (h : ℕ) → (after_all m events).handed h ≡ m.handed h

-- such events are events
abbrev pub leads_on : {S : Type 0} (setting : Setting S) (m : machine.Assembly) (Fact : machine.Assembly → Type 0)
    → LeadsStill setting m Fact → LeadsTo setting m Fact
leads_on setting m Fact first = record { events = first.events; follows = first.follows; fact = first.fact }

-- nothing happens
pub stays : {S : Type 0} (setting : Setting S) (m : machine.Assembly) (Fact : machine.Assembly → Type 0) → Fact m
    → LeadsStill setting m Fact
stays setting m Fact f = record { events = []; follows = tt; fact = f; still = λ h. refl }

-- one event happens that hands nothing
pub moves : {S : Type 0} (setting : Setting S) (m : machine.Assembly) (Fact : machine.Assembly → Type 0) (event : Event)
    → ((h : ℕ) → (after m event).handed h ≡ m.handed h)
    → Enabled setting.scope.rules (net_of setting) m event → Fact (after m event) → LeadsStill setting m Fact
moves setting m Fact event same may f =
    record { events = event ∷ []; follows = (may, tt); fact = f; still = same }

-- where they lead is reached
pub reaches : {S : Type 0} (setting : Setting S) (m : machine.Assembly) (Fact : machine.Assembly → Type 0)
    → Reached setting m → (first : LeadsTo setting m Fact) → Reached setting (after_all m first.events)
reaches setting m Fact r first = record {
  events = r.events ++ first.events;
  follows = follows_both setting.scope.rules (net_of setting) machine.beginning r.events first.events r.follows
      (subst (λ x. Follows setting.scope.rules (net_of setting) x first.events) r.is first.follows);
  is = ap (λ x. after_all x first.events) r.is ∙ sym (after_both machine.beginning r.events first.events);
}

-- events go on from where others lead
pub goes_further : {S : Type 0} (setting : Setting S) (m : machine.Assembly) (Fact Next : machine.Assembly → Type 0)
    → Reached setting m → LeadsTo setting m Fact
    → ((x : machine.Assembly) → Reached setting x → Fact x → LeadsTo setting x Next) → LeadsTo setting m Next
goes_further setting m Fact Next reached first then =
    let rest = then (after_all m first.events) (reaches setting m Fact reached first) first.fact in
    record {
      events = first.events ++ rest.events;
      follows = follows_both setting.scope.rules (net_of setting) m first.events rest.events first.follows rest.follows;
      fact = subst Next (sym (after_both m first.events rest.events)) rest.fact;
    }

-- so do those that hand nothing
pub goes_on : {S : Type 0} (setting : Setting S) (m : machine.Assembly) (Fact Next : machine.Assembly → Type 0)
    → Reached setting m → LeadsStill setting m Fact
    → ((x : machine.Assembly) → Reached setting x → Fact x → LeadsStill setting x Next) → LeadsStill setting m Next
goes_on setting m Fact Next reached first then =
    let rest = then (after_all m first.events) (reaches setting m Fact reached (leads_on setting m Fact first)) first.fact in
    record {
      events = first.events ++ rest.events;
      follows = follows_both setting.scope.rules (net_of setting) m first.events rest.events first.follows rest.follows;
      fact = subst Next (sym (after_both m first.events rest.events)) rest.fact;
      still = λ h.
          ap (λ (x : machine.Assembly). x.handed h) (after_both m first.events rest.events) ∙ rest.still h ∙ first.still h;
    }

-- what the machine keeps
pub kept_there : {S : Type 0} (setting : Setting S) → IsFollowable setting → (m : machine.Assembly) → Reached setting m
    → Kept setting.scope.rules (net_of setting) m
kept_there setting may m r =
    subst (Kept setting.scope.rules (net_of setting)) (sym r.is)
    (kept setting.scope.rules (net_of setting) may.few r.events r.follows)
