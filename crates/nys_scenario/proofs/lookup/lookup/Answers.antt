-- toml's map finds at a key what the table's members have there.
use Rattle.toml.proofs.Views.{table_get}
use Rattle.nys_scenario.proofs.lookup.lookup.Goals as goal

pub returns : goal.returns
returns c = table_get c.get.result c.args.key.now c.args.table.now.entries c.get.ensures.value
