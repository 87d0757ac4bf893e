use Rattle.std.proofs.Common.{◌≡◌, [], ◌∷◌, Ok, subst, sym, ◌∙◌}
use Rattle.nys_rules.proofs.WorldLemmas.{happens_once}
use Rattle.nys_outcomes.specs.Noise.{after_noise}
use Rattle.nys_rules.specs.Events.{plain}
use Rattle.nys_rules.specs.Happening.{Happens}
use Rattle.nys_world.specs.Shows.{setting_of}
use Rattle.nys_world.proofs.ReachedWorlds.{happen_one, reached_more, world_same}
use Rattle.nys_world.proofs.world.World.step.Goals as goal

-- the event happens behind those that made the world
pub returns-clause-happens : goal.returns-clause-happens
returns-clause-happens g c = λ w is.
    let setting = setting_of (g.P.Protocol.rules c.args.self.stage.cx.protocol) c.args.self.stage in
    let x = c.in_ok-step.ensures w is.shows in
    let one = happen_one setting w x.0 (plain c.args.event) x.1 in (
      x.0,
      x.1,
      record { shows = x.2; reached = reached_more setting w x.0 (plain c.args.event ∷ []) is.reached one },
    )

-- events make the world
pub returns-clause-promised : goal.returns-clause-promised
returns-clause-promised g c = λ scenario w is. c.known_promises.ensures scenario w is.reached

-- the event leads to one world, and dropped bytes to the one that the law of noise names
pub returns-clause-noise : goal.returns-clause-noise
returns-clause-noise g c = λ w after to frame cause is named drops.
    let rules = g.P.Protocol.rules c.args.self.stage.cx.protocol in
    let setting = setting_of rules c.args.self.stage in
    let event = plain c.args.event in
    let x = c.in_ok-step.ensures w is.shows in
    let does = subst (λ e. Happens setting w e (Ok after)) (sym named) drops.happens in
    let once = happens_once setting w event (Ok x.0) (Ok after) x.1 does in
    let one : x.0 ≡ after = cc in
    world_same _ _ x.0 (after_noise to frame cause w) (one ∙ c.known_noise.ensures w after to frame cause drops)
    (record { shows = x.2; reached = reached_more setting w x.0 (event ∷ []) is.reached (happen_one setting w x.0 event x.1) })
