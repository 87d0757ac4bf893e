-- What events lead to is answered.
use Rattle.std.proofs.Common.{◌≡◌, List, Ok, Err}
use Rattle.nys_answer.specs.declared.answer.Answer.{Answer}
use Rattle.nys_answer.specs.declared.status.Status.TheVariants.{Done}
use Rattle.nys_rules.specs.Events.{Plain}
use Rattle.nys_rules.specs.Happening.{HappenAll}
use Rattle.nys_rules.specs.World.{fresh_world, Setting, World}
use Rattle.nys_rules.specs.declared.notice.End.{End}
use Rattle.nys_rules.specs.declared.notice.End.TheVariants.{Clash, Forged, NoMemory, NoPacket, PoolFull}
use Rattle.nys_world.specs.Outcomes.{Happened}
use Rattle.nys_played.specs.Refusals.{IsEndAnswer}
use Rattle.nys_world_commands.specs.Replayed.{IsEventsAnswer}
use Rattle.nys_world_commands.specs.Telling.{text_of}
use Rattle.nys_world_commands.specs.declared.telling.Telling.{Telling}

-- the world after the last event is told
pub telling_answered : {S W : Type 0} (telling : Telling) (Is : W → World → Type 0) (setting : Setting S) (events : List Plain) (world : W) (answer : Answer)
    → Happened Is (HappenAll setting (fresh_world setting) events) (Ok world)
    → ((w : World) → Is world w → answer ≡ record { status = Done; text = text_of telling setting w })
    → IsEventsAnswer telling setting events answer
telling_answered telling Is setting events world answer happened printed =
    record { outcome = Ok happened.0; happen = happened.1; given = printed happened.0 happened.2 }

-- the end has its line
pub end_answered : {S W : Type 0} (telling : Telling) (Is : W → World → Type 0) (setting : Setting S) (events : List Plain) (end : End) (answer : Answer)
    → Happened Is (HappenAll setting (fresh_world setting) events) (Err end) → IsEndAnswer end answer
    → IsEventsAnswer telling setting events answer
end_answered telling Is setting events (NoPacket event packet have) answer happened given =
    record { outcome = Err (NoPacket event packet have); happen = happened; given = given }
end_answered telling Is setting events (Forged event maker taker statement) answer happened given =
    record { outcome = Err (Forged event maker taker statement); happen = happened; given = given }
end_answered telling Is setting events (Clash event maker taker made taken) answer happened given =
    record { outcome = Err (Clash event maker taker made taken); happen = happened; given = given }
end_answered telling Is setting events (PoolFull event packets bytes) answer happened given =
    record { outcome = Err (PoolFull event packets bytes); happen = happened; given = given }
end_answered telling Is setting events NoMemory answer happened given = absurd given
