-- Each part is the view's.
use Rattle.std.proofs.Common.{◌≡◌, ℕ, Bool, ◌||◌, ◌&&◌, nat_lt, not, refl, sym, subst, arith}
use Rattle.nys_hosts.specs.Sets.{has}
use Rattle.nys_rules.specs.Noting.{bases, retirements}
use Rattle.nys_votes.specs.Seats.{no_seats}
use Rattle.nys_node.specs.Entering.{AreReplicas}
use Rattle.nys_config.specs.Scopes.{scope_of}
use Rattle.nys_sending.specs.Tables.{IsTable}
use Rattle.nys_node.proofs.EnteringMeans.{means_entered}
use Rattle.nys_node.proofs.node.Node.begin_epoch.Goals as goal

pub returns : goal.returns
unfolding scope_of
returns g c = λ v k.
    let protocol = g.P.Protocol.rules c.args.cx.now.protocol in
    let scope = scope_of protocol c.args.cx.now in
    let guarded = c.guarded_by-guarded.result in
    let known : ℕ → Bool = λ x. v.known x || (nat_lt x 32 && has guarded x) in
    let begun = c.in_ok-begin_replicas.ensures v.logs v.kept_from v.known k.replicas in
    means_entered scope _ v c.args.epoch (bases c.args.lengths.now) (retirements c.args.lengths.now) guarded (record {
      me = k.me;
      host = k.host;
      few = omega (arith, c.hosts.ensures.few, c.hosts.ensures.value);
      epoch_is = refl;
      within = c.requires.epoch;
      wedged = refl;
      guards = c.guarded_by-guarded.ensures.value;
      live = λ h. subst (λ n. has c.live_of-self.result h ≡ (nat_lt h n && (has guarded h && not (has c.retired_by-self.result h))))
          c.hosts.ensures.value (c.live_of-self.ensures h);
      retired_are = c.retired_by-self.ensures;
      bases = c.bases_by-self.ensures;
      voted_to = c.bases_by-self-2.ensures;
      waiting = k.waiting;
      room = k.room;
      desks = c.in_ok-self-2.ensures;
      slots = c.in_ok-self-3.ensures;
      replicas = c.forget_all.ensures protocol v.logs v.kept_from known (bases c.args.lengths.now) c.bases_by-self.ensures begun;
      banks = subst (λ n. IsTable c.in_ok-self-4.field-0.items (λ _. (n, no_seats))) c.credit.ensures c.in_ok-self-4.ensures;
      links = c.in_ok-self-5.ensures;
      heard = c.in_ok-self.ensures protocol v.logs v.kept_from known
          (subst (λ items. AreReplicas protocol items v.logs v.kept_from known) (sym c.as_slice.ensures.value) begun);
    })
