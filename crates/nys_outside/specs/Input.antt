-- What a source tells of its bytes, what a read does to them, and what a reading to the end does.
use Rattle.std.specs.Prelude.{ℕ, ◌+◌, ◌<◌, ◌≤◌, ◌≡◌, ◌↔◌, ⊤, List, [], ◌++◌, length, take, Option, None, Some, Result, Ok, Err, IfOk}
use Rattle.nys_outside.specs.Counts.{RoseOnce}

-- an input, part of which was read
pub record Input : Type 0 where
  -- the bytes that were read
  pub taken : List ℕ
  -- the bytes that are left
  pub left : List ℕ
  -- how many reads there were
  pub reads : ℕ

-- an input of which nothing was read
abbrev pub fresh : List ℕ → Input
fresh bytes = record { taken = []; left = bytes; reads = 0 }

-- these bytes were read
pub record Took (old new : Input) (bytes : List ℕ) : Type 0 where
  pub from_left : old.left ≡ bytes ++ new.left
  pub to_taken : new.taken ≡ old.taken ++ bytes

-- what a read put into its buffer
abbrev pub bytes_read : {E : Type 0} → Result ℕ E → List ℕ → List ℕ
bytes_read (Ok n) buf = take n buf
bytes_read (Err _) buf = []

-- a read moved what it gave, and gave nothing exactly at the end
pub record ReadStep {E : Type 0} (old new : Input) (result : Result ℕ E) (buf : List ℕ) : Type 0 where
  pub counted : RoseOnce old.reads new.reads
  pub moved : Took old new (bytes_read result buf)
  pub end : IfOk result (λ n. 0 < length buf → (n ≡ 0) ↔ (old.left ≡ []))

-- a read, where the source tells
abbrev pub Reads : {E : Type 0} → Option Input → Option Input → Result ℕ E → List ℕ → Type 0
Reads None new result buf = ⊤
Reads (Some old) None result buf = ⊥
Reads (Some old) (Some new) result buf = ReadStep old new result buf

-- these bytes were read, by one read at most
pub record TookOnce (old new : Input) (bytes : List ℕ) : Type 0 where
  pub took : Took old new bytes
  pub once : new.reads ≤ old.reads + 1

-- that, where the source tells
abbrev pub TookNext : Option Input → Option Input → List ℕ → Type 0
TookNext None new bytes = ⊤
TookNext (Some old) None bytes = ⊥
TookNext (Some old) (Some new) bytes = TookOnce old new bytes

-- no byte was left, where the source tells
abbrev pub HasEnded : Option Input → Type 0
HasEnded None = ⊤
HasEnded (Some old) = old.left ≡ []

-- these bytes were all that was left, and none are left now, where the source tells
abbrev pub TookAll : Option Input → Option Input → List ℕ → Type 0
TookAll None new bytes = ⊤
TookAll (Some old) None bytes = ⊥
TookAll (Some old) (Some new) bytes = (old.left ≡ bytes) × (new.left ≡ [])

-- some bytes were read, so many at most, by as many reads and one more
pub record TookSome (most : ℕ) (old new : Input) : Type 0 where
  pub bytes : List ℕ
  pub took : Took old new bytes
  pub few : length bytes ≤ most
  pub reads : new.reads ≤ old.reads + length bytes + 1

-- that, where the source tells
abbrev pub TookAtMost : ℕ → Option Input → Option Input → Type 0
TookAtMost most None new = ⊤
TookAtMost most (Some old) None = ⊥
TookAtMost most (Some old) (Some new) = TookSome most old new

-- more bytes were left than a limit, where the source tells
abbrev pub Exceeds : ℕ → Option Input → Type 0
Exceeds limit None = ⊤
Exceeds limit (Some old) = limit < length old.left
