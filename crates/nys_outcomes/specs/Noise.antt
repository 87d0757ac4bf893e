-- Bytes that a party drops change nothing: the world that they leave, and what leaving them out of a list of
-- events leaves out of its outcome.
use Rattle.std.specs.Prelude.{◌≡◌, ℕ, ◌+◌, true, List, [], ◌∷◌, ◌++◌, drop, length, map, take, Some, None, Result, Ok, Err}
use Rattle.nys_rules.specs.declared.cause.DropCause.{DropCause}
use Rattle.nys_rules.specs.declared.notice.End.{End}
use Rattle.nys_rules.specs.declared.notice.End.TheVariants.{NoPacket, Forged, Clash, PoolFull, NoMemory}
use Rattle.nys_rules.specs.declared.notice.Note.{Note}
use Rattle.nys_rules.specs.declared.notice.Take.{Take}
use Rattle.nys_rules.specs.Events.{Plain}
use Rattle.nys_rules.specs.Events.Plain.{Bytes}
use Rattle.nys_rules.specs.Happening.{HappenAll, Happens}
use Rattle.nys_rules.specs.Packets.{Given}
use Rattle.nys_rules.specs.World.{is_honest, Setting, World}

-- the last taking tells that what was given was dropped, for this cause
pub record EndsDropped (takes : List Take) (cause : DropCause) : Type 0 where
  pub before : List Take
  pub last : Take
  pub among : takes ≡ before ++ last ∷ []
  pub dropped : last.dropped ≡ Some cause

-- an honest host or the Olympus is given bytes, and drops them
pub record Drops {S : Type 0} (setting : Setting S) (w : World) (to : ℕ) (frame : List ℕ) (cause : DropCause)
    (next : World) : Type 0 where
  pub honest : is_honest setting to ≡ true
  pub happens : Happens setting w (Bytes to frame) (Ok next)
  pub told : EndsDropped next.takes cause

-- the world after bytes that were dropped: it has one event more, and tells the bytes and their taking
abbrev pub after_noise : (to : ℕ) → List ℕ → DropCause → World → World
after_noise to frame cause w = record w {
  events = w.events + 1;
  injected = w.injected ++ record { event = w.events; to = to; frame = frame } ∷ [];
  takes = w.takes ++ record { event = w.events; to = to; packet = None; dropped = Some cause } ∷ [];
}

-- bytes that are dropped change nothing else
abbrev pub NoiseChangesNothing : {S : Type 0} → Setting S → Type 0
NoiseChangesNothing setting = (w next : World) (to : ℕ) (frame : List ℕ) (cause : DropCause)
    → Drops setting w to frame cause next → next ≡ after_noise to frame cause w

-- the same told of the event one later
abbrev pub later_given : Given → Given
later_given given = record given { event = given.event + 1 }

-- the same told of the event one later
abbrev pub later_take : Take → Take
later_take taking = record taking { event = taking.event + 1 }

-- the same told of the event one later
abbrev pub later_note : Note → Note
later_note note = record note { event = note.event + 1 }

-- the same end in the event one later
abbrev pub later_end : End → End
later_end (NoPacket event k have) = NoPacket (event + 1) k have
later_end (Forged event maker taker statement) = Forged (event + 1) maker taker statement
later_end (Clash event maker taker made taken) = Clash (event + 1) maker taker made taken
later_end (PoolFull event packets bytes) = PoolFull (event + 1) packets bytes
later_end NoMemory = NoMemory

-- the first n of what is told stay, then something is told, and the rest is told of the event one later
abbrev pub told_at : {A : Type 0} → (n : ℕ) → (told : List A) → (later : A → A) → List A → List A
told_at n told later items = take n items ++ told ++ map later (drop n items)

-- what dropped bytes leave behind a world, in the worlds that come of it
pub record Noise : Type 0 where
  -- the bytes, and their taking
  pub given : Given
  pub taking : Take
  -- how many bytes, takings and notes were told before
  pub injected : ℕ
  pub takes : ℕ
  pub notes : ℕ

-- bytes that were given to the party in a world, and dropped
abbrev pub noise_in : World → (to : ℕ) → List ℕ → DropCause → Noise
noise_in w to frame cause = record {
  given = record { event = w.events; to = to; frame = frame };
  taking = record { event = w.events; to = to; packet = None; dropped = Some cause };
  injected = length w.injected;
  takes = length w.takes;
  notes = length w.notes;
}

-- the world with the noise on its way: it has the same nodes, Olympus, ledger, pool, longest logs and run; there is
-- one event more; the bytes and their taking are told in their place, and what was told behind them is told of the
-- event one later
abbrev pub with_noise : Noise → World → World
with_noise noise w = record w {
  events = w.events + 1;
  injected = told_at noise.injected (noise.given ∷ []) later_given w.injected;
  takes = told_at noise.takes (noise.taking ∷ []) later_take w.takes;
  notes = told_at noise.notes [] later_note w.notes;
}

-- the outcome with the noise on its way
abbrev pub outcome_with_noise : Noise → Result World End → Result World End
outcome_with_noise noise (Ok w) = Ok (with_noise noise w)
outcome_with_noise noise (Err end) = Err (later_end end)

-- in a list of events some lead to a world, and then a party is given bytes and drops them
pub record HasNoise {S : Type 0} (setting : Setting S) (w : World) (before : List Plain) (mid : World) (to : ℕ)
    (frame : List ℕ) (cause : DropCause) : Type 0 where
  pub come : HappenAll setting w before (Ok mid)
  pub next : World
  pub drops : Drops setting mid to frame cause next

-- the list has the outcome that it has without the bytes, with the noise on its way
abbrev pub StaysWithNoise : {S : Type 0} → Setting S → Type 0
StaysWithNoise setting = (w mid : World) (before after : List Plain) (to : ℕ) (frame : List ℕ) (cause : DropCause)
    (without : Result World End) → HasNoise setting w before mid to frame cause
    → HappenAll setting w (before ++ after) without
    → HappenAll setting w (before ++ Bytes to frame ∷ after) (outcome_with_noise (noise_in mid to frame cause) without)

-- and no other
abbrev pub IsLeftOut : {S : Type 0} → Setting S → Type 0
IsLeftOut setting = (w mid : World) (before after : List Plain) (to : ℕ) (frame : List ℕ) (cause : DropCause)
    (without result : Result World End) → HasNoise setting w before mid to frame cause
    → HappenAll setting w (before ++ after) without
    → HappenAll setting w (before ++ Bytes to frame ∷ after) result
    → result ≡ outcome_with_noise (noise_in mid to frame cause) without
