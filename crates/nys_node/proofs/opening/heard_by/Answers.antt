-- One link after another.
use Rattle.std.proofs.Common.{◌≡◌, ◌∙◌, ℕ, List, Option, ℤ, refl, sym, subst, arith}
use Rattle.nys_agreement.specs.Alone.{alone}
use Rattle.nys_agreement.proofs.TableLemmas.{put_case}
use Rattle.nys_attest.specs.Windows.{next_of, seats_at}
use Rattle.nys_votes.specs.Seats.{no_seats}
use Rattle.nys_node.proofs.EnteringLemmas.{below_again}
use Rattle.nys_node.proofs.opening.heard_by.Goals as goal

-- of no link
pub loop-p-init : goal.loop-p-init
loop-p-init g c = (c.in_ok-table.ensures.seats, λ protocol h log kept known is q low. absurd (omega (arith, low)))

-- of one link more
pub loop-p-preserved : goal.loop-p-preserved
loop-p-preserved g c = (
  (λ q k. c.restart.ensures.seats q k
      ∙ put_case (λ (f : ℕ → List (Option (List ℤ))). f k ≡ no_seats) (seats_at c.loop-p.table) c.loop-p.p (λ _. no_seats) q
      (λ e. refl) (λ ne. c.loop-p.invariant.0 q k)),
  (λ protocol h log kept known is q low. c.restart.ensures.next q
      ∙ put_case (λ n. n ≡ (alone protocol h log).received q h) (next_of c.loop-p.table) c.loop-p.p c.next_in.result q
      (λ e. subst (λ x. c.next_in.result ≡ (alone protocol h log).received x h) (sym e) (c.next_in.ensures protocol h log kept known is))
      (λ ne. c.loop-p.invariant.1 protocol h log kept known is q (below_again q c.loop-p.p low ne))),
)

-- of all
pub returns : goal.returns
returns g c = λ protocol h log kept known is. record {
  next_is = λ p low. c.loop-p.invariant.1 protocol h log kept known is p (omega (arith, low, c.loop-p-test.false));
  heard_is = λ p k low later. c.loop-p.invariant.0 p k;
}
