-- What is appended by one write after another.
use Rattle.std.proofs.Common.{ℕ, ◌+◌, List, take, drop, Option, None, Some, sym, ◌∙◌, append_assoc}
use Rattle.std.proofs.lemmas.List.{append-nil}
use Rattle.std.proofs.Math.Seq.{take-add}
use Rattle.std.specs.Io.KnownBytes.{Appends, Keeps}

-- nothing appended is what stays
pub Appends-nothing : (known : Option (List ℕ)) (bytes : List ℕ) → Appends known known (take 0 bytes)
Appends-nothing None bytes = tt
Appends-nothing (Some xs) bytes = sym (append-nil xs)

-- the first bytes and the next ones are the first bytes of both
pub Appends-next : (old mid new : Option (List ℕ)) (bytes : List ℕ) (at n : ℕ) →
    Appends old mid (take at bytes) → Appends mid new (take n (drop at bytes)) → Appends old new (take (at + n) bytes)
Appends-next None mid new bytes at n first next = tt
Appends-next (Some xs) None new bytes at n first next = absurd first
Appends-next (Some xs) (Some ys) None bytes at n first next = absurd next
Appends-next (Some xs) (Some ys) (Some zs) bytes at n first next =
    rw (take-add at n bytes, ← append_assoc xs (take at bytes) (take n (drop at bytes)), ← first) next

-- what was appended is appended still where all stays
pub Appends-kept : (old mid new : Option (List ℕ)) (bytes : List ℕ) → Appends old mid bytes → Keeps mid new → Appends old new bytes
Appends-kept None mid new bytes first kept = tt
Appends-kept (Some xs) None new bytes first kept = absurd first
Appends-kept (Some xs) (Some ys) None bytes first kept = absurd kept
Appends-kept (Some xs) (Some ys) (Some zs) bytes first kept = kept ∙ first
