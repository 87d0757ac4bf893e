-- The lines of the hosts: each as a run leaves it.
use Rattle.std.specs.Prelude.{ℕ, ◌++◌, Bool, if◌then◌else◌, List, codes, decimal}
use Rattle.std.specs.List.{flat_map, range_with_len}
use Rattle.nys_text.specs.Printed.{state_text, outs_text}
use Rattle.nys_source.specs.Rules.{Rules}
use Rattle.nys_source.specs.Source.{Source}

-- whether a host runs, as a word
abbrev pub running_word : Bool → List ℕ
running_word running = if running then codes " running" else codes " stopped"

-- the line of a host
unfoldable pub host_line : {S : Type 0} → Rules S → Source S → ℕ → List ℕ
host_line rules system h =
    codes "host " ++ (decimal h ++ (running_word (system.running h) ++ (codes " state "
    ++ (state_text (rules.view (system.state h)) ++ (codes " out " ++ (outs_text (system.outs h) ++ codes "\n"))))))

-- the lines of the hosts from one on, so many
abbrev pub hosts_text : {S : Type 0} → Rules S → Source S → ℕ → ℕ → List ℕ
hosts_text rules system first count = flat_map (host_line rules system) (range_with_len first count)
