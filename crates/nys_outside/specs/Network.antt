-- What links tell of the frames in each direction, and what connect, send and poll do to them.
use Rattle.std.specs.Prelude.{ℕ, ◌≡◌, ⊤, Bool, true, false, ◌||◌, List, [], ◌∷◌, ◌++◌, Option, None, Some, Result, Ok, Err}
use Rattle.nys_outside.specs.Counts.{RoseOnce}
use Rattle.nys_outside.specs.declared.got.Got.{Got}
use Rattle.nys_outside.specs.declared.got.Got.TheVariants.{Frame, NotYet, Closed, Failed, NoMemory}

-- a frame from one host to another
pub record Directed : Type 0 where
  pub from : ℕ
  pub to : ℕ
  pub frame : List ℕ

-- the frames of links; a direction is its sender and its receiver
pub record Network : Type 0 where
  -- the frames that polls have given, in order
  pub given : List Directed
  -- the frames that wait in a direction, oldest first
  pub waiting : ℕ → ℕ → List (List ℕ)
  -- how often a direction was polled
  pub polls : ℕ → ℕ → ℕ
  -- whether a direction is closed
  pub closed : ℕ → ℕ → Bool
  -- whether a poll of a direction has answered that it is closed
  pub answered : ℕ → ℕ → Bool

-- every direction has what it had
abbrev pub Same : {A : Type 0} → (ℕ → ℕ → A) → (ℕ → ℕ → A) → Type 0
Same old new = (f t : ℕ) → new f t ≡ old f t

-- every direction but one has what it had
abbrev pub Elsewhere : {A : Type 0} → ℕ → ℕ → (ℕ → ℕ → A) → (ℕ → ℕ → A) → Type 0
Elsewhere from to old new = (f t : ℕ) → ((f ≡ from) × (t ≡ to) → ⊥) → new f t ≡ old f t

-- a closed direction stays closed
abbrev pub StaysClosed : (ℕ → ℕ → Bool) → (ℕ → ℕ → Bool) → Type 0
StaysClosed old new = (f t : ℕ) → old f t ≡ true → new f t ≡ true

-- no frame came, went or was given
pub record KeepsFrames (old new : Network) : Type 0 where
  pub waiting : Same old.waiting new.waiting
  pub given : new.given ≡ old.given

-- a connect may lose or keep the frames that wait, and changes nothing else
pub record ConnectStep (old new : Network) : Type 0 where
  pub given : new.given ≡ old.given
  pub polls : Same old.polls new.polls
  pub answered : Same old.answered new.answered
  pub closed : StaysClosed old.closed new.closed

-- a send lets its frame wait in its direction, or changes no frame
abbrev pub SendMoves : {T E : Type 0} → ℕ → ℕ → List ℕ → Result T E → Network → Network → Type 0
SendMoves from to frame (Ok _) old new =
    (new.waiting from to ≡ old.waiting from to ++ frame ∷ []) × Elsewhere from to old.waiting new.waiting
SendMoves from to frame (Err _) old new = Same old.waiting new.waiting

-- a send moves its frame, and changes nothing else
pub record SendStep {T E : Type 0} (from to : ℕ) (frame : List ℕ) (result : Result T E) (old new : Network) : Type 0 where
  pub moves : SendMoves from to frame result old new
  pub given : new.given ≡ old.given
  pub polls : Same old.polls new.polls
  pub answered : Same old.answered new.answered
  pub closed : StaysClosed old.closed new.closed

-- what a poll does to the frames, by its answer
abbrev pub PollMoves : ℕ → ℕ → Got → List ℕ → Network → Network → Type 0
PollMoves from to Frame buf old new =
    (old.waiting from to ≡ buf ∷ new.waiting from to)
    × Elsewhere from to old.waiting new.waiting
    × (new.given ≡ old.given ++ record { from = from; to = to; frame = buf } ∷ [])
PollMoves from to NotYet buf old new = (old.waiting from to ≡ []) × KeepsFrames old new
PollMoves from to Closed buf old new = (old.waiting from to ≡ []) × (new.closed from to ≡ true) × KeepsFrames old new
PollMoves from to Failed buf old new = KeepsFrames old new
PollMoves from to NoMemory buf old new = KeepsFrames old new

-- whether a poll answered that its direction is closed
abbrev pub is_closed : Got → Bool
is_closed Frame = false
is_closed NotYet = false
is_closed Closed = true
is_closed Failed = false
is_closed NoMemory = false

-- a poll moves a frame, is counted, and changes nothing else
pub record PollStep (from to : ℕ) (got : Got) (buf : List ℕ) (old new : Network) : Type 0 where
  pub moves : PollMoves from to got buf old new
  pub counted : RoseOnce (old.polls from to) (new.polls from to)
  pub other_polls : Elsewhere from to old.polls new.polls
  pub answered : new.answered from to ≡ old.answered from to || is_closed got
  pub other_answers : Elsewhere from to old.answered new.answered
  pub closed : StaysClosed old.closed new.closed

-- a connect, where the links tell
abbrev pub Connects : Option Network → Option Network → Type 0
Connects None new = ⊤
Connects (Some old) None = ⊥
Connects (Some old) (Some new) = ConnectStep old new

-- a send, where the links tell
abbrev pub Sends : {T E : Type 0} → ℕ → ℕ → List ℕ → Result T E → Option Network → Option Network → Type 0
Sends from to frame result None new = ⊤
Sends from to frame result (Some old) None = ⊥
Sends from to frame result (Some old) (Some new) = SendStep from to frame result old new

-- a poll, where the links tell
abbrev pub Polls : ℕ → ℕ → Got → List ℕ → Option Network → Option Network → Type 0
Polls from to got buf None new = ⊤
Polls from to got buf (Some old) None = ⊥
Polls from to got buf (Some old) (Some new) = PollStep from to got buf old new
