-- What it comes to that a party is given something.
use Rattle.std.proofs.Common.{◌≡◌, ◌≢◌, ℕ, ◌-◌, ◌==◌, ◌++◌, ◌∷◌, [], true, false, List, length, Some, None, Ok, Err, refl, ap, sym, subst, arith}
use Rattle.std.proofs.lemmas.Bool.{ne_eqb}
use Rattle.std.proofs.lemmas.List.{length-append}
use Rattle.std.proofs.lemmas.Option.{slice_get_past}
use Rattle.std.specs.Prelude.{if◌then◌else◌, ◌≤◌, Option, Result, slice_get}
use Rattle.circular_buffer.proofs.Places.{slice_get-last}
use Rattle.nys_rules.specs.declared.notice.End.{End}
use Rattle.nys_rules.specs.declared.notice.End.TheVariants.{NoPacket}
use Rattle.nys_rules.specs.Happening.{Delivers, GivesPacket, IsGiven, NodeTakes, OlympusTakes, TakenBy, with_injected}
use Rattle.nys_rules.specs.Packets.{Given, Sent}
use Rattle.nys_rules.specs.Scope.{olympus}
use Rattle.nys_rules.specs.World.{is_honest, Setting, World}
use Rattle.nys_world.specs.Given.{bytes_given, bytes_in, frame_in}

-- the Olympus is given it
pub given_olympus : {S : Type 0} (setting : Setting S) (w : World) (to : ℕ) (packet : Option ℕ) (frame : List ℕ) (result : Result World End)
    → to ≡ 32 → OlympusTakes setting w packet frame result → IsGiven setting w to packet frame result
given_olympus setting w to packet frame result is takes = subst (λ g. IsGiven setting w g packet frame result) (sym is) takes

-- an honest host is given it
pub given_host : {S : Type 0} (setting : Setting S) (w : World) (to : ℕ) (packet : Option ℕ) (frame : List ℕ) (result : Result World End)
    → to ≢ 32 → is_honest setting to ≡ true → NodeTakes setting w to packet frame result → IsGiven setting w to packet frame result
given_host setting w to packet frame result other honest takes =
    subst (λ b. TakenBy setting w b (to == olympus) to packet frame result) (sym honest)
    (subst (λ b. TakenBy setting w true b to packet frame result) (sym (ne_eqb to olympus other)) takes)

-- a liar is given it
pub given_liar : {S : Type 0} (setting : Setting S) (w : World) (to : ℕ) (packet : Option ℕ) (frame : List ℕ)
    → is_honest setting to ≡ false → IsGiven setting w to packet frame (Ok w)
given_liar setting w to packet frame lies =
    subst (λ b. TakenBy setting w b (to == olympus) to packet frame (Ok w)) (sym lies) refl

-- the world in which a packet counts as delivered
abbrev pub marked : ℕ → World → World
marked k w = record w { delivered = λ x. if x == k then true else w.delivered x }

-- a packet that was sent is given, and counts as delivered
pub delivers_sent : {S : Type 0} (setting : Setting S) (w : World) (k to : ℕ) (p : Sent) (result : Result World End) → slice_get w.pool k ≡ Some p
    → to ≡ p.to → IsGiven setting (marked k w) to (Some k) (bytes_given (marked k w) (Some k)) result → Delivers setting w k result
delivers_sent setting w k to p result at is given =
    subst (λ o. GivesPacket setting w k o result) (sym at)
    (subst (λ g. IsGiven setting (marked k w) g (Some k) p.frame result) is
    (subst (λ o. IsGiven setting (marked k w) to (Some k) (frame_in o) result) at given))

-- one that was never sent ends the world
pub delivers_none : {S : Type 0} (setting : Setting S) (w : World) (k event have : ℕ) → length w.pool ≤ k → event ≡ w.events → have ≡ length w.pool
    → Delivers setting w k (Err (NoPacket event k have))
delivers_none setting w k event have past events size =
    subst (λ o. GivesPacket setting w k o (Err (NoPacket event k have))) (sym (slice_get_past w.pool k past))
    (rw (events, size) refl)

-- the bytes that an event gave last are those that it gives now
pub injected_last : (to : ℕ) (frame : List ℕ) (w : World) → bytes_given (with_injected to frame w) None ≡ frame
injected_last to frame w =
    ap bytes_in (slice_get-last w.injected (given) (length (w.injected ++ given ∷ []) - 1)
    (omega (arith, length-append w.injected (given ∷ []))))
  where
    given : Given
    given = record { event = w.events; to = to; frame = frame }
