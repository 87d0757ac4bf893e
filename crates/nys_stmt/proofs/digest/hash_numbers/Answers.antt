use Rattle.std.proofs.Common.{rules, ◌≤◌, ◌++◌, length, take, get_or, w64, pos, to_z, of_z, All, sym, subst, arith, append-nil}
use Rattle.std.specs.Prelude.{FitsSigned}
use Rattle.std.specs.List.{flat_map}
use Rattle.std.proofs.lemmas.Int.{to_z-of_z}
use Rattle.std.proofs.lemmas.List.{take_all}
use Rattle.std.proofs.lemmas.List.Elements.{All-more}
use Rattle.sha2.specs.Hashers.{Holds256}
use Rattle.nys_stmt.specs.Spelling.{number_bytes}
use Rattle.nys_stmt.proofs.Written.{one_more_taken}
use Rattle.nys_stmt.proofs.digest.hash_numbers.Goals as goal

-- no number is taken yet
pub loop-number-init : goal.loop-number-init
loop-number-init c = (λ m held. subst (λ t. Holds256 c.args.hasher.now t) (sym (append-nil m)) held, search rules)

pub loop-number-preserved : goal.loop-number-preserved
loop-number-preserved c =
    let number = get_or c.args.numbers.now c.loop-number.number-index (pos 0) in
    let fits : FitsSigned w64 number = search rules in (
      λ m held.
          subst (λ t. Holds256 c.hash_number.new.hasher t)
          (one_more_taken number_bytes c.args.numbers.now c.loop-number.number-index (pos 0) (to_z w64 (of_z w64 number)) m
          c.loop-number-test.true (to_z-of_z w64 number fits))
          (c.hash_number.ensures (m ++ flat_map number_bytes (take c.loop-number.number-index c.args.numbers.now)) (c.loop-number.invariant.0 m held)),
      All-more (λ z. FitsSigned w64 z) c.args.numbers.now c.loop-number.number-index (pos 0) c.loop-number-test.true c.loop-number.invariant.1 fits,
    )

-- all of them were taken
pub returns-clause-holds : goal.returns-clause-holds
returns-clause-holds c =
    let past : length c.args.numbers.now ≤ c.loop-number.number-index = omega (arith, c.loop-number-test.false) in
    λ m held. subst (λ zs. Holds256 c.loop-number.hasher (m ++ flat_map number_bytes zs)) (take_all c.loop-number.number-index c.args.numbers.now past) (c.loop-number.invariant.0 m held)

-- all of them fit
pub returns-clause-fit : goal.returns-clause-fit
returns-clause-fit c =
    let past : length c.args.numbers.now ≤ c.loop-number.number-index = omega (arith, c.loop-number-test.false) in
    subst (λ zs. All (λ z. FitsSigned w64 z) zs) (take_all c.loop-number.number-index c.args.numbers.now past) c.loop-number.invariant.1
