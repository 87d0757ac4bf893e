-- A host more stands behind a comma where others stand before it.
use Rattle.std.proofs.Common.{◌≡◌, ◌++◌, codes, decimal, sym, ap, ◌∙◌, arith, append-nil}
use Rattle.std.specs.List.{join_by}
use Rattle.nys_hosts.specs.Sets.{has}
use Rattle.nys_guard_commands.proofs.LinesLemmas.{all_below, has_some, hosts_with_one, none_below, none_some, passing_below, same_below}
use Rattle.nys_guard_commands.proofs.print.put_hosts.Goals as goal
use Rattle.nys_guard_commands.proofs.print.put_hosts.Goals.{then-contains+in_ok-put_host, else-contains}

pub loop-h-init : goal.loop-h-init
loop-h-init c =
    let none = none_below (has c.args.hosts) in record {
      text = sym (ap (λ xs. c.args.out.now ++ join_by decimal (codes ",") xs) none ∙ append-nil c.args.out.now);
      some = sym (ap has_some none ∙ none_some);
    }

pub loop-h-preserved : goal.loop-h-preserved
loop-h-preserved c =
    let p = has c.args.hosts in
    elim c.if-contains.branch [
      | then-contains+in_ok-put_host w ↦
          let more = hosts_with_one p c.loop-h.h c.args.out.now c.loop-h.out w.put_host.new.out c.loop-h.started
          (sym c.contains.ensures ∙ w.if-contains.true) c.loop-h.invariant.text c.loop-h.invariant.some
          w.in_ok-put_host.ensures in record {
            text = w.out-is ∙ more.0;
            some = w.started-is ∙ sym more.1;
          }
      | else-contains w ↦
          let same = sym (same_below p c.loop-h.h (sym c.contains.ensures ∙ w.if-contains.false)) in record {
            text = w.out-is ∙ c.loop-h.invariant.text ∙ ap (λ xs. c.args.out.now ++ join_by decimal (codes ",") xs) same;
            some = w.started-is ∙ c.loop-h.invariant.some ∙ ap has_some same;
          }
    ]

pub returns : goal.returns
returns c =
    let p = has c.args.hosts in
    let all : c.loop-h.h ≡ 32 = omega (arith, c.loop-h-test.false, c.loop-h.auto.h-end) in
    c.loop-h.invariant.text ∙ ap (λ n. c.args.out.now ++ join_by decimal (codes ",") (passing_below p n)) all
    ∙ ap (λ xs. c.args.out.now ++ join_by decimal (codes ",") xs) (all_below p)
