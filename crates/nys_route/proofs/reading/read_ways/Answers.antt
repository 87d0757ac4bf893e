-- Ways that the numbers show at their places are those that they show as a state.
use Rattle.std.proofs.Common.{rules, ◌≡◌, ◌+◌, ◌∙◌, length, sym, ap}
use Rattle.nys_route.specs.Routes.{are_ways, ways_view}
use Rattle.nys_route.specs.Shown.{ShowAll}
use Rattle.nys_route.proofs.ShownLemmas.{long_view, show_only, show_state, show_view}
use Rattle.nys_route.proofs.reading.read_ways.Goals as goal

pub returns-then-numbers-hosts-clause-none : goal.returns-then-numbers-hosts-clause-none
returns-then-numbers-hosts-clause-none c = λ ways known view.
    let long = sym (ap length view) ∙ long_view c.args.hosts ways known in
    let other = c.if-numbers-hosts.true in
    search (rules, long)

pub returns-in-Some-clause-some : goal.returns-in-Some-clause-some
returns-in-Some-clause-some c =
    let long : length c.args.numbers.now ≡ c.args.hosts + c.args.hosts = search rules in
    let all : ShowAll c.args.hosts c.args.hosts c.args.numbers.now c.in-Some.held.items = search rules in
    ap ways_view c.of.ensures ∙ show_view c.args.hosts c.args.numbers.now c.in-Some.held.items long all

pub returns-in-Some-clause-state : goal.returns-in-Some-clause-state
returns-in-Some-clause-state c =
    let all : ShowAll c.args.hosts c.args.hosts c.args.numbers.now c.in-Some.held.items = search rules in
    ap (are_ways c.args.hosts) c.of.ensures ∙ show_state c.args.hosts c.args.numbers.now c.in-Some.held.items all

pub returns-in-None-clause-none : goal.returns-in-None-clause-none
returns-in-None-clause-none c = λ ways known view.
    let all = show_only c.args.hosts c.args.numbers.now ways known view in
    search (rules, all)
