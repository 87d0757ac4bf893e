-- the number whose bytes stand first is taken, until no bytes are left
use Rattle.std.proofs.Common.{rules, ◌≡◌, ◌<◌, ◌^◌, ◌++◌, ◌∷◌, [], length, ap, sym, refl, ◌∙◌, append_assoc, append-nil, inl, inr, w64}
use Rattle.std.specs.Prelude.{FitsSigned}
use Rattle.std.specs.Int.{cast_signed}
use Rattle.std.proofs.lemmas.Bool.{cases_lt}
use Rattle.std.proofs.lemmas.Int.{to_z-of_z}
use Rattle.nys_replica.proofs.PackLemmas.{end_packed, next_packed}
use Rattle.nys_replica.proofs.packing.unpack.Goals as goal

-- no number was taken yet
pub loop-bits-init : goal.loop-bits-init
loop-bits-init c = λ numbers packed. (numbers, rw c.in_ok-found.ensures.items refl, rw c.new-cursor.ensures.left packed)

pub loop-bits-preserved : goal.loop-bits-preserved
loop-bits-preserved c = λ numbers packed.
    let so_far = c.loop-bits.invariant numbers packed in
    let low : c.in-Ok.bits < 2 ^ 64 = search rules in
    let more = next_packed c.loop-bits.cursor.left c.u64.new.self.left c.in-Ok.bits so_far.0 low c.in-Ok.ensures.read so_far.2 in
    let item = c.cast_signed.result in
    let fits : FitsSigned w64 item = search rules in
    let pushed : c.push.new.self.items ≡ c.loop-bits.found.items ++ cast_signed w64 c.in-Ok.bits ∷ [] =
    c.in_ok-push.ensures.items ∙ ap (λ z. c.loop-bits.found.items ++ z ∷ []) (to_z-of_z w64 item fits ∙ c.cast_signed.ensures) in (
      more.0,
      so_far.1 ∙ ap (λ zs. c.loop-bits.found.items ++ zs) more.1
          ∙ sym (append_assoc c.loop-bits.found.items (cast_signed w64 c.in-Ok.bits ∷ []) more.0) ∙ ap (λ zs. zs ++ more.0) (sym pushed),
      more.2,
    )

-- no number is left
pub returns : goal.returns
returns c = λ numbers packed.
    let so_far = c.loop-bits.invariant numbers packed in
    let short : length c.loop-bits.cursor.left < 8 = elim (cases_lt (length c.loop-bits.cursor.left) 8) [
      | inl less ↦ less
      | inr long ↦ absurd (let found = c.in_default.ensures.found.1 long in cc)
    ] in
    sym (so_far.1 ∙ ap (λ zs. c.loop-bits.found.items ++ zs) (end_packed c.loop-bits.cursor.left so_far.0 short so_far.2) ∙ append-nil c.loop-bits.found.items)
