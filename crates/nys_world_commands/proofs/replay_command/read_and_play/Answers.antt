-- a schedule that is read has few events
use Rattle.nys_hosts.specs.Sets.{has}
use Rattle.nys_schedule.specs.declared.form.Form.TheVariants as form
use Rattle.nys_world_commands.proofs.FewLemmas.{schedule_few_events}
use Rattle.nys_world_commands.proofs.replay_command.read_and_play.Goals as goal

pub play_events-requires-clause-few : goal.play_events-requires-clause-few
play_events-requires-clause-few g c =
    schedule_few_events form.Replay c.args.hosts (has c.args.guards.liars) c.args.text.now c.in-Ok.events.items c.in-Ok.ensures.ok
