-- The Olympus opens its next epoch, and the machine follows.
use Rattle.std.proofs.Common.{◌≡◌, ℕ, ◌+◌, ◌<◌, ◌≤◌, ◌⊎◌, Bool, true, false, length, refl, ap, sym, subst, ◌∙◌, inl, inr, arith}
use Rattle.std.specs.Prelude.{All, not, slice_get}
use Rattle.nys_source.specs.Tables.{put}
use Rattle.nys_agreement.specs.Events.Event.{Opens}
use Rattle.nys_agreement.specs.Assembly as machine
use Rattle.nys_agreement.proofs.TableLemmas.{put_here, put_there}
use Rattle.nys_stmt.specs.declared.statement.Statement.{Statement}
use Rattle.nys_rules.specs.declared.decision.Opened.TheVariants as opens
use Rattle.nys_rules.specs.Olympus.{in_next_epoch, lengths_told, opening, opening_acts}
use Rattle.nys_rules.specs.Scope.{olympus}
use Rattle.nys_rules.specs.World.{Setting, World}
use Rattle.nys_laws.specs.Testimony.{MayBeOpened}
use Rattle.nys_laws.proofs.EventKeeping.{with_olympus}
use Rattle.nys_laws.proofs.OlympusLemmas.{base_told, opening_made, opens_in_order, retired_told}
use Rattle.nys_follows.specs.Follows.{IsFollowable, IsNode, IsOlympus, IsOpened, IsTruthful, part_of, Reached, Tracks}
use Rattle.nys_follows.proofs.LeadingLemmas.{kept_there, LeadsStill, moves}
use Rattle.nys_follows.proofs.OlympusLedger.{ledger_beside, ledger_later, StandsBeside}

-- the bases of all epochs once the next is open
abbrev next_base : machine.Assembly → ℕ → ℕ → ℕ
next_base m = put m.base (m.top + 1) (λ h. length (m.decided h))

-- who lives in them
abbrev next_live : machine.Assembly → ℕ → ℕ → Bool
next_live m = put m.live (m.top + 1) m.decided_now

-- an epoch that was open has its bases
old_base : (m : machine.Assembly) (e h : ℕ) → e ≤ m.top → next_base m e h ≡ m.base e h
old_base m e h le =
    ap (λ (f : ℕ → ℕ). f h)
    (put_there m.base (m.top + 1) (λ x. length (m.decided x)) e (λ same. omega (arith, le, same)))

-- and its hosts
old_live : (m : machine.Assembly) (e h : ℕ) → e ≤ m.top → next_live m e h ≡ m.live e h
old_live m e h le =
    ap (λ (f : ℕ → Bool). f h) (put_there m.live (m.top + 1) m.decided_now e (λ same. omega (arith, le, same)))

-- the next epoch begins each log where it was decided
base_now : (m : machine.Assembly) (e h : ℕ) → e ≡ m.top + 1 → next_base m e h ≡ length (m.decided h)
base_now m e h is =
    ap (λ x. next_base m x h) is ∙ ap (λ (f : ℕ → ℕ). f h) (put_here m.base (m.top + 1) (λ x. length (m.decided x)))

-- the hosts that were decided live in it
live_now : (m : machine.Assembly) (e h : ℕ) → e ≡ m.top + 1 → next_live m e h ≡ m.decided_now h
live_now m e h is =
    ap (λ x. next_live m x h) is ∙ ap (λ (f : ℕ → Bool). f h) (put_here m.live (m.top + 1) m.decided_now)

-- where each host is decided or retired, and none both
decided_is_kept : (decided_now retired : Bool) → (decided_now ≡ true) ⊎ (retired ≡ true)
    → (decided_now ≡ true → retired ≡ false)
    → decided_now ≡ not retired
decided_is_kept true retired either apart = sym (ap not (apart refl))
decided_is_kept false true either apart = refl
decided_is_kept false false (inl is) apart = absurd (cc)
decided_is_kept false false (inr is) apart = absurd (cc)

-- the Olympus opens the next epoch
pub opens_track : {S : Type 0} (setting : Setting S) → IsFollowable setting → (w : World) (m : machine.Assembly)
    → Reached setting m → Tracks setting w m → (epoch : ℕ) → opening setting.scope w.olympus ≡ opens.Done epoch
    → LeadsStill setting m
    (Tracks setting (with_olympus (in_next_epoch w.olympus) (opening_acts setting.scope w.olympus epoch) w))
opens_track {S} setting asked w m reached k epoch is =
    moves setting m
    (Tracks setting (with_olympus (in_next_epoch w.olympus) (opening_acts setting.scope w.olympus epoch) w)) Opens (λ x. refl)
    (k.top.wedged_is ∙ may.ending, each)
    (record {
      nodes = record { each = node; no_others = k.nodes.no_others };
      top = next_top;
      ledger = ledger_beside setting olympus (opening_acts setting.scope w.olympus epoch).made w.ledger m.ledger
          (m.top + 1) m.decided (next_base m) (next_live m) made
          (ledger_later setting w.ledger m.ledger m.top m.decided m.base m.live
          (m.top + 1) m.decided (next_base m) (next_live m)
          (record { rises = omega arith; begins = old_base m; lives = old_live m; grows = λ h s c entry. entry })
          k.ledger);
      run = k.run;
    })
  where
    may : MayBeOpened setting.scope w.olympus epoch
    may = opens_in_order setting.scope w.olympus epoch is

    now : w.olympus.epoch + 1 ≡ m.top + 1
    now = ap (λ e. e + 1) (sym k.top.top_is)

    each : (h : ℕ) → h < setting.scope.rules.hosts → (m.decided_now h ≡ true) ⊎ (m.retired h ≡ true)
    each h low = elim (may.each h low) [
      | inl decided_now ↦ inl (k.top.decided_now_is h ∙ decided_now)
      | inr gone ↦ inr (k.top.retired_is h ∙ gone)
    ]

    lives_on : (h : ℕ) → h < setting.scope.rules.hosts → m.decided_now h ≡ not (w.olympus.retired h)
    lives_on h low =
        k.top.decided_now_is h
        ∙ decided_is_kept (w.olympus.decided_now h) (w.olympus.retired h) (may.each h low) (k.top.apart h)

    node : (g : ℕ) → IsTruthful setting g
        → IsNode setting g (part_of (w.nodes g)) (m.epoch g) (m.wedged g) (m.log g) (m.waiting g)
        (next_base m) (next_live m)
    node g honest =
        let was = k.nodes.each g honest in
        let past = (kept_there setting asked m reached).sound.safe.votes.epochs g in
        let upto = subst (λ e. e ≤ m.top) was.epoch_is past in
        record {
          me = was.me;
          epoch_is = was.epoch_is;
          wedged_is = was.wedged_is;
          log_is = was.log_is;
          waiting_is = was.waiting_is;
          lives = λ h low. old_live m (w.nodes g).epoch h upto ∙ was.lives h low;
          begins = λ h low kept. old_base m (w.nodes g).epoch h upto ∙ was.begins h low kept;
        }

    next_top : IsOlympus setting (in_next_epoch w.olympus) (m.top + 1) false m.decided (λ _. false) m.retired
        (next_base m) (next_live m)
    next_top = record {
      top_is = sym now;
      wedged_is = refl;
      decided_is = k.top.decided_is;
      decided_now_is = λ h. refl;
      retired_is = k.top.retired_is;
      begins = λ h. base_now m (w.olympus.epoch + 1) h now ∙ ap length (k.top.decided_is h);
      lives = λ h low kept. live_now m (w.olympus.epoch + 1) h now ∙ lives_on h low ∙ ap not kept;
      still = λ h none. refl;
      apart = λ h decided_now. absurd (cc);
    }

    Beside : Statement → Type 0
    Beside = StandsBeside setting (m.top + 1) m.decided (next_base m) (next_live m)

    opened : (e : ℕ) → e ≡ m.top + 1
        → IsOpened setting e (lengths_told setting.scope w.olympus) (m.top + 1) (next_base m) (next_live m)
    opened e same = record {
      upto = omega (arith, same);
      lives = λ h low.
          live_now m e h same ∙ lives_on h low ∙ ap not (sym (retired_told setting.scope w.olympus h low));
      begins = λ h low kept.
          base_now m e h same ∙ ap length (k.top.decided_is h)
          ∙ sym (base_told setting.scope w.olympus h low (sym (retired_told setting.scope w.olympus h low) ∙ kept));
    }

    made : All Beside (opening_acts setting.scope w.olympus epoch).made
    made = opening_made setting.scope w.olympus epoch Beside (opened epoch (may.next ∙ now))
        (λ h slot content low kept entry. ap (λ log. slice_get log slot) (k.top.decided_is h) ∙ entry)
