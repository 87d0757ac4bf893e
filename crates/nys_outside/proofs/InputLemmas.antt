-- What one read after another takes of an input.
use Rattle.std.proofs.Common.{ℕ, ◌+◌, ◌<◌, ◌≤◌, ◌≡◌, min, List, [], ◌++◌, length, take, drop, Option, None, Some, Ok, Result, refl, sym, ap, ◌∙◌, append_assoc, length-append, arith}
use Rattle.std.proofs.lemmas.List.{append-nil, take-append-drop, drop-drop, nil_from_length}
use Rattle.std.proofs.Math.Seq.{take-add}
use Rattle.std.specs.Bool.{⊤}
use Rattle.nys_outside.specs.Counts.{RoseOnce}
use Rattle.nys_outside.specs.Input.{Input, Took, bytes_read, ReadStep, Reads, TookNext, HasEnded, TookAll, TookAtMost, Exceeds}

-- a read from a place of some bytes
pub read_front : {E : Type 0} (at n reads counted : ℕ) (bytes buf : List ℕ) → RoseOnce reads counted →
    n ≡ min (length (drop at bytes)) (length buf) → take n buf ≡ take n (drop at bytes) →
    ReadStep {E = E} (record { taken = take at bytes; left = drop at bytes; reads = reads })
    (record { taken = take (at + n) bytes; left = drop (at + n) bytes; reads = counted }) (Ok n) buf
read_front at n reads counted bytes buf once size same = record {
  counted = once;
  moved = record {
    from_left = rw (same, ← drop-drop n at bytes) (sym (take-append-drop n (drop at bytes)));
    to_taken = rw same (take-add at n bytes);
  };
  end = λ room. (
    λ none. nil_from_length (drop at bytes) (omega arith),
    λ none. let empty : length (drop at bytes) ≡ 0 = ap length none in omega arith,
  );
}

-- what one read gave
pub read_next : {E : Type 0} (before now : Option Input) (result : Result ℕ E) (buf : List ℕ) → Reads before now result buf →
    TookNext before now (bytes_read result buf)
read_next None now result buf read = tt
read_next (Some before) None result buf read = absurd read
read_next (Some before) (Some now) result buf read = record { took = read.moved; once = read.counted.once }

-- a read that gives nothing, where there was room
pub read_ended : (E : Type 0) (before now : Option Input) (buf : List ℕ) (n : ℕ) → Reads {E = E} before now (Ok n) buf →
    0 < length buf → n ≡ 0 → HasEnded before
read_ended E None now buf n read room none = tt
read_ended E (Some before) None buf n read room none = absurd read
read_ended E (Some before) (Some now) buf n read room none = (read.end room).0 none

-- these bytes were read so far, each read giving some
abbrev pub TookSoFar : Option Input → Option Input → List ℕ → Type 0
TookSoFar None now bytes = ⊤
TookSoFar (Some first) None bytes = ⊥
TookSoFar (Some first) (Some now) bytes = Took first now bytes × (now.reads ≤ first.reads + length bytes)

-- at first nothing was read
pub so_far_first : (told : Option Input) → TookSoFar told told []
so_far_first None = tt
so_far_first (Some first) = (
  record { from_left = refl; to_taken = sym (append-nil first.taken) },
  omega arith,
)

-- the bytes of one read after those of another
pub Took-next : (first before now : Input) (bytes next : List ℕ) → Took first before bytes → Took before now next → Took first now (bytes ++ next)
Took-next first before now bytes next so_far read = record {
  from_left = rw (so_far.from_left, read.from_left) (sym (append_assoc bytes next now.left));
  to_taken = rw (read.to_taken, so_far.to_taken) (append_assoc first.taken bytes next);
}

-- one read after them, which gives some
pub so_far_more : (first before now : Option Input) (bytes next : List ℕ) → TookSoFar first before bytes → TookNext before now next →
    (length next ≡ 0 → ⊥) → TookSoFar first now (bytes ++ next)
so_far_more None before now bytes next so_far read some = tt
so_far_more (Some first) None now bytes next so_far read some = absurd so_far
so_far_more (Some first) (Some before) None bytes next so_far read some = absurd read
so_far_more (Some first) (Some before) (Some now) bytes next so_far read some = (
  Took-next first before now bytes next so_far.0 read.took,
  let size : length (bytes ++ next) ≡ length bytes + length next = length-append bytes next in
      let once : now.reads ≤ before.reads + 1 = read.once in
      let reads : before.reads ≤ first.reads + length bytes = so_far.1 in
      omega arith,
)

-- one read after them, which gives nothing since nothing is left
pub so_far_all : (first before now : Option Input) (bytes next : List ℕ) → TookSoFar first before bytes → TookNext before now next →
    length next ≡ 0 → HasEnded before → TookAll first now bytes
so_far_all None before now bytes next so_far read none ended = tt
so_far_all (Some first) None now bytes next so_far read none ended = absurd so_far
so_far_all (Some first) (Some before) None bytes next so_far read none ended = absurd read
so_far_all (Some first) (Some before) (Some now) bytes next so_far read none ended = (
  so_far.0.from_left ∙ ap (λ rest. bytes ++ rest) ended ∙ append-nil bytes,
  sym (read.took.from_left ∙ ap (λ front. front ++ now.left) (nil_from_length next none)) ∙ ended,
)

-- any one read after them
pub so_far_read : (most : ℕ) (first before now : Option Input) (bytes next : List ℕ) → TookSoFar first before bytes →
    TookNext before now next → length bytes + length next ≤ most → TookAtMost most first now
so_far_read most None before now bytes next so_far read few = tt
so_far_read most (Some first) None now bytes next so_far read few = absurd so_far
so_far_read most (Some first) (Some before) None bytes next so_far read few = absurd read
so_far_read most (Some first) (Some before) (Some now) bytes next so_far read few =
    let size : length (bytes ++ next) ≡ length bytes + length next = length-append bytes next in
    let once : now.reads ≤ before.reads + 1 = read.once in
    let reads : before.reads ≤ first.reads + length bytes = so_far.1 in
    record {
      bytes = bytes ++ next;
      took = Took-next first before now bytes next so_far.0 read.took;
      few = omega arith;
      reads = omega arith;
    }

-- no read after them
pub so_far_at_most : (most : ℕ) (first now : Option Input) (bytes : List ℕ) → TookSoFar first now bytes → length bytes ≤ most → TookAtMost most first now
so_far_at_most most None now bytes so_far few = tt
so_far_at_most most (Some first) None bytes so_far few = absurd so_far
so_far_at_most most (Some first) (Some now) bytes so_far few =
    let reads : now.reads ≤ first.reads + length bytes = so_far.1 in
    record { bytes = bytes; took = so_far.0; few = few; reads = omega arith }

-- what was read was left before
pub so_far_exceeds : (limit : ℕ) (first now : Option Input) (bytes : List ℕ) → TookSoFar first now bytes → limit < length bytes → Exceeds limit first
so_far_exceeds limit None now bytes so_far past = tt
so_far_exceeds limit (Some first) None bytes so_far past = absurd so_far
so_far_exceeds limit (Some first) (Some now) bytes so_far past =
    let size : length first.left ≡ length bytes + length now.left = ap length so_far.0.from_left ∙ length-append bytes now.left in
    omega arith
