-- What later assemblies keep of earlier ones.
use Rattle.std.proofs.Common.{◌≡◌, ℕ, ◌+◌, ◌<◌, ◌≤◌, ◌⊎◌, List, ◌++◌, length, refl, sym, ap, subst, ◌∙◌, inl, inr, arith, Some}
use Rattle.std.specs.Prelude.{Bool, slice_get}
use Rattle.nys_bytes.specs.declared.content.Content.{Content}
use Rattle.nys_source.specs.Rules.{Rules}
use Rattle.nys_agreement.specs.Net.{Net}
use Rattle.nys_agreement.specs.Said.{Has, Made, Said}
use Rattle.nys_agreement.specs.Assembly.{Assembly}
use Rattle.nys_agreement.specs.Events.{Enabled, Event}
use Rattle.nys_agreement.specs.Events.Event.{Decides, Enters, Hands, Inherits, Logs, Opens, Retires, Says, TopWedges, Wedges}
use Rattle.nys_agreement.specs.After.{after, with_decision, with_next_epoch}
use Rattle.nys_agreement.proofs.ListLemmas.{append_some}
use Rattle.nys_agreement.proofs.TableLemmas.{put_case}
use Rattle.nys_agreement.proofs.Openings.{new_base, old_base, old_live}

-- the second assembly is the first or a later one
pub record Later (w l : Assembly) : Type 0 where
  pub ledger : (x : Made) → Has w.ledger x → Has l.ledger x
  pub epochs : (x : ℕ) → w.epoch x ≤ l.epoch x
  pub top : w.top ≤ l.top
  -- the tables of opened epochs stay
  pub base : (e h : ℕ) → e ≤ w.top → l.base e h ≡ w.base e h
  pub live : (e h : ℕ) → e ≤ w.top → l.live e h ≡ w.live e h
  pub decided : (h s : ℕ) (c : Content) → slice_get (w.decided h) s ≡ Some c → slice_get (l.decided h) s ≡ Some c
  -- one event opens one epoch at most, which begins each log where it was decided
  pub opened : (l.top ≡ w.top) ⊎ ((l.top ≡ w.top + 1) × ((h : ℕ) → l.base (w.top + 1) h ≡ length (w.decided h)))

-- more was said
later_says : (w : Assembly) (g : ℕ) (said : Said) → Later w (after w (Says g said))
later_says w g said = record {
  ledger = λ x has. inr has;
  epochs = λ x. omega arith;
  top = omega arith;
  base = λ e h le. refl;
  live = λ e h le. refl;
  decided = λ h s c get. get;
  opened = inl refl;
}

-- a node is further on
later_enters : (w : Assembly) (g to : ℕ) → w.epoch g < to → Later w (after w (Enters g to))
later_enters w g to lt = record {
  ledger = λ x has. has;
  epochs = λ x. put_case (λ n. w.epoch x ≤ n) w.epoch g to x (λ q. let b = ap w.epoch q in omega arith) (λ q. omega arith);
  top = omega arith;
  base = λ e h le. refl;
  live = λ e h le. refl;
  decided = λ h s c get. get;
  opened = inl refl;
}

-- a decided log is longer
pub later_decides : (w : Assembly) (h : ℕ) (more : List Content) → Later w (with_decision w h more)
later_decides w h more = record {
  ledger = λ x has. has;
  epochs = λ x. omega arith;
  top = omega arith;
  base = λ e i le. refl;
  live = λ e i le. refl;
  decided = λ i s c get. put_case (λ (log : List Content). slice_get log s ≡ Some c) w.decided h (w.decided h ++ more) i
      (λ q. append_some (w.decided h) more s c (sym (ap (λ n. slice_get (w.decided n) s) q) ∙ get)) (λ q. get);
  opened = inl refl;
}

-- one epoch more is open
later_opens : (w : Assembly) → Later w (with_next_epoch w)
later_opens w = record {
  ledger = λ x has. has;
  epochs = λ x. omega arith;
  top = omega arith;
  base = λ e h le. old_base w e h le;
  live = λ e h le. old_live w e h le;
  decided = λ h s c get. get;
  opened = inr (refl, new_base w);
}

-- an assembly that differs in nothing that matters here
later_same : (w : Assembly) (l : Assembly) → l.ledger ≡ w.ledger → l.epoch ≡ w.epoch → l.top ≡ w.top → l.base ≡ w.base → l.live ≡ w.live → l.decided ≡ w.decided → Later w l
later_same w l a b c d e f = record {
  ledger = λ x has. subst (λ (made : List Made). Has made x) (sym a) has;
  epochs = λ x. let q = ap (λ (g : ℕ → ℕ). g x) b in omega arith;
  top = omega arith;
  base = λ i h le. ap (λ (g : ℕ → ℕ → ℕ). g i h) d;
  live = λ i h le. ap (λ (g : ℕ → ℕ → Bool). g i h) e;
  decided = λ h s x get. ap (λ (g : ℕ → List Content). slice_get (g h) s) f ∙ get;
  opened = inl c;
}

-- an event leads to a later assembly
pub later_step : {S : Type 0} (rules : Rules S) (net : Net) (w : Assembly) (event : Event) → Enabled rules net w event → Later w (after w event)
later_step rules net w (Says g said) may = later_says w g said
later_step rules net w (Enters g to) may = later_enters w g to may.1
later_step rules net w (Decides h more) may = later_decides w h more
later_step rules net w Opens may = later_opens w
later_step rules net w (Logs g h c) may = later_same w (after w (Logs g h c)) refl refl refl refl refl refl
later_step rules net w (Inherits g h c) may = later_same w (after w (Inherits g h c)) refl refl refl refl refl refl
later_step rules net w (Wedges g) may = later_same w (after w (Wedges g)) refl refl refl refl refl refl
later_step rules net w (Hands h payload) may = later_same w (after w (Hands h payload)) refl refl refl refl refl refl
later_step rules net w TopWedges may = later_same w (after w TopWedges) refl refl refl refl refl refl
later_step rules net w (Retires h) may = later_same w (after w (Retires h)) refl refl refl refl refl refl
