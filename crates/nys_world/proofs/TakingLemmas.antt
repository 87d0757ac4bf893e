-- What was given to parties, where that is kept and where it isn't.
use Rattle.std.proofs.Common.{◌≡◌, ℕ, ◌++◌, ◌∷◌, [], Bool, true, false, List, ap, subst, ◌∙◌}
use Rattle.std.specs.Prelude.{Option}
use Rattle.nys_rules.specs.declared.cause.DropCause.{DropCause}
use Rattle.nys_rules.specs.declared.notice.Take.{Take}
use Rattle.nys_rules.specs.Happening.{with_take}
use Rattle.nys_rules.specs.World.{World}
use Rattle.nys_world.specs.Shows.{AreTakes}

-- nothing was given
pub takes_none : (traced : Bool) (kept : List Take) → kept ≡ [] → AreTakes traced kept []
takes_none true kept none = none
takes_none false kept none = tt

-- one thing more was given, and it is kept
pub takes_more : (traced : Bool) (old new all : List Take) (taken : Take) → new ≡ old ++ taken ∷ []
    → AreTakes traced old all → AreTakes traced new (all ++ taken ∷ [])
takes_more true old new all taken is are = is ∙ ap (λ l. l ++ taken ∷ []) are
takes_more false old new all taken is are = tt

-- it isn't kept
pub takes_left : (traced : Bool) (kept all : List Take) → traced ≡ false → AreTakes traced kept all
takes_left true kept all not_wanted = absurd (cc)
takes_left false kept all not_wanted = tt

-- it is kept with the number of its event
pub takes_told : (traced : Bool) (kept : List Take) (w : World) (event to : ℕ) (packet : Option ℕ) (dropped : Option DropCause) → event ≡ w.events
    → AreTakes traced kept (w.takes ++ record { event = event; to = to; packet = packet; dropped = dropped } ∷ [])
    → AreTakes traced kept (with_take to packet dropped w).takes
takes_told traced kept w event to packet dropped same are =
    subst (λ e. AreTakes traced kept (w.takes ++ record { event = e; to = to; packet = packet; dropped = dropped } ∷ [])) same are

-- all are there where they are kept
pub takes_all : (traced : Bool) (kept all : List Take) → traced ≡ true → AreTakes traced kept all → kept ≡ all
takes_all true kept all wanted are = are
takes_all false kept all wanted are = absurd (cc)
