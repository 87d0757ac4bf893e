-- Bundles: whose makers join, and of which packets.
use Rattle.std.proofs.Common.{◌≡◌, ℕ, ◌+◌, ◌≤◌, Bool, true, false, List, [], ◌∷◌, drop, length, Some, None, Ok, refl, ap, sym, ◌∙◌, arith}
use Rattle.std.specs.Prelude.{fold, if◌then◌else◌, replicate, slice_get}
use Rattle.nys_stmt.specs.declared.records.Record.{Record}
use Rattle.nys_stmt.specs.declared.statement.Statement.{Statement}
use Rattle.nys_stmt.specs.declared.tags.Tags.{Tags}
use Rattle.nys_votes.specs.Ordered.{makers_of}
use Rattle.nys_rules.proofs.SameLemmas.{decide_statements}
use Rattle.nys_wire.specs.Reading.{whole_record}
use Rattle.nys_rules.specs.Happening.{bundle_of, bundled, first_frame, frame_of}
use Rattle.nys_rules.specs.Same.{is_same_statement}
use Rattle.nys_rules.specs.World.{World}
use Rattle.nys_sending.proofs.Walks.{drop_next}
use Rattle.nys_world.proofs.SeatLemmas.{Kept, with_makers}

-- what a walk makes of an item, then of the rest, it makes from the item on
pub fold_next : {A B : Type 0} (f : B → A → B) (b : B) (xs : List A) (i : ℕ) (x : A) → slice_get xs i ≡ Some x
    → fold f (f b x) (drop (i + 1) xs) ≡ fold f b (drop i xs)
fold_next f b xs i x at = sym (ap (λ ys. fold f b ys) (drop_next xs i x at))

-- a record of another statement leaves the seats as they are
pub bundled_other : (statement : Statement) (seats : Kept) (r : Record)
    → (r.statement ≡ statement → ⊥) → seats ≡ bundled statement seats (Ok r)
bundled_other statement seats r other = by (is_same_statement r.statement statement) refl
  where
    by : (b : Bool) → is_same_statement r.statement statement ≡ b → seats ≡ (if b then with_makers r.makers seats else seats)
    by true e = absurd (other ((decide_statements r.statement statement).0 e))
    by false e = refl

-- a record of the statement has its makers take seats
pub bundled_same : (statement : Statement) (seats : Kept) (r : Record) → r.statement ≡ statement
    → with_makers r.makers seats ≡ bundled statement seats (Ok r)
bundled_same statement seats r same = rw ((decide_statements r.statement statement).1 same) refl

-- what the packets have for the statement joins, one after another
abbrev pub joining : World → Statement → Kept → ℕ → Kept
joining w statement seats k = bundled statement seats (whole_record (frame_of w k))

-- the record of a statement and its makers
abbrev pub gathered : Statement → List Tags → Record
gathered statement makers = record { statement = statement; makers = makers }

-- the bundle begins with the first record
pub bundle_is : (w : World) (ks : List ℕ) (first : Record) (begun seats : Kept) → 1 ≤ length ks → whole_record (first_frame w ks) ≡ Ok first
    → begun ≡ bundled first.statement (replicate 33 None) (Ok first) → seats ≡ fold (joining w first.statement) begun (drop 1 ks)
    → gathered first.statement (makers_of seats) ≡ bundle_of w first.statement ks
unfolding bundle_of
bundle_is w [] first begun seats some read begins all = absurd (omega (arith, some))
bundle_is w (k ∷ ks) first begun seats some read begins all =
    let start : begun ≡ joining w first.statement (replicate 33 None) k
    = begins ∙ ap (λ answer. bundled first.statement (replicate 33 None) answer) (sym read) in
    ap (λ (kept : Kept). gathered first.statement (makers_of kept))
    (all ∙ ap (λ (kept : Kept). fold (joining w first.statement) kept ks) start)
