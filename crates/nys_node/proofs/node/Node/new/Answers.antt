-- The first view is that in which a node that knows no host enters epoch 0.
use Rattle.std.proofs.Common.{subst, arith}
use Rattle.nys_rules.specs.Noting.{bases, retirements}
use Rattle.nys_rules.specs.View.{entering, first_view, newborn}
use Rattle.nys_node.specs.Means.{Means}
use Rattle.nys_config.specs.Scopes.{scope_of}
use Rattle.nys_node.proofs.SoundViews.{sound_first}
use Rattle.nys_node.proofs.node.Node.new.Goals as goal

-- there is an epoch 0
pub enter-requires : goal.enter-requires
unfolding scope_of
enter-requires g c = record { epoch = omega (arith, c.requires.config.some) }

pub returns : goal.returns
unfolding first_view scope_of
returns g c =
    let scope = scope_of (g.P.Protocol.rules c.args.cx.now.protocol) c.args.cx.now in
    record {
      view = record {
        means =
            subst (λ lengths. Means scope c.enter.new.self (entering scope 0 (bases lengths) (retirements lengths) (newborn c.args.me)))
            c.new-lengths.ensures (c.in_ok-enter.ensures (newborn c.args.me) (c.in_ok-node.ensures scope c.requires.me));
        sound = sound_first scope c.args.me;
      };
    }
