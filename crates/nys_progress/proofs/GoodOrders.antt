-- Records of Orders that are well formed and have whole entries, in all packets of a world.
use Rattle.std.proofs.Common.{◌≡◌, ℕ, List, Ok, sym, subst, ◌∙◌, inl, inr}
use Rattle.std.specs.Prelude.{All, Contains}
use Rattle.nys_stmt.specs.declared.records.Record.{Record}
use Rattle.nys_stmt.specs.Records.{IsRecord, record_spelling}
use Rattle.nys_wire.proofs.Wholes.{whole_again}
use Rattle.nys_wire.specs.Reading.{whole_record}
use Rattle.nys_rules.specs.Exchanges.{IsOrderRecord, IsUnspoiled}
use Rattle.nys_rules.specs.Packets.{Given, Sent}
use Rattle.nys_rules.specs.World.{Setting, World}
use Rattle.nys_progress.specs.FourExchanges.{AreThere, HasWholeOrders, IsWholeEntry}

-- the record is well formed, and its entries are whole
pub record IsGoodOrder {S : Type 0} (setting : Setting S) (e h : ℕ) (r : Record) : Type 0 where
  pub well : IsRecord r
  pub whole : All (IsWholeEntry setting e h r.statement) r.makers

-- bytes that are a record of an Order for slot s of h in the epoch are such a one
abbrev pub ReadsGood : {S : Type 0} → Setting S → (e h s : ℕ) → List ℕ → Type 0
ReadsGood setting e h s frame = (is : IsOrderRecord frame e h s) → IsGoodOrder setting e h is.r

-- all packets are such bytes
abbrev pub AreGood : {S : Type 0} → Setting S → (e h s : ℕ) → List Sent → Type 0
AreGood setting e h s pool = (p : Sent) → Contains pool p → ReadsGood setting e h s p.frame

-- two readings are one
read_same : (frame : List ℕ) (a b : Record) → whole_record frame ≡ Ok a → whole_record frame ≡ Ok b → a ≡ b
read_same frame a b one two = let both = sym one ∙ two in cc

-- bytes that are spelled from a good record read as one
pub spelled_good : {S : Type 0} (setting : Setting S) (e h s : ℕ) (r : Record) → IsGoodOrder setting e h r
    → ReadsGood setting e h s (record_spelling r)
spelled_good setting e h s r good is =
    subst (IsGoodOrder setting e h) (read_same (record_spelling r) r is.r (whole_again r good.well) is.reads) good

-- where the slot is unspoiled its orders are whole
pub whole_of : {S : Type 0} (setting : Setting S) (w : World) (e h s : ℕ) → IsUnspoiled w e h s → AreGood setting e h s w.pool
    → HasWholeOrders setting w e h s
whole_of {S} setting w e h s unspoiled good = record {
  well = λ frame there is. (at frame there is).well;
  whole = λ frame there is. (at frame there is).whole;
}
  where
    at : (frame : List ℕ) → AreThere w.pool w.injected frame → ReadsGood setting e h s frame
    at frame (inl sent) is = subst (ReadsGood setting e h s) sent.2 (good sent.0 sent.1) is
    at frame (inr given) is = absurd (unspoiled.bytes given.0 given.1 (subst (λ f. IsOrderRecord f e h s) (sym given.2) is))
