-- What hosts know of routes.
use Rattle.nys_route.proofs.RouteSteps.{routes_runs}
use Rattle.nys_route.proofs.laws.route_law.Goals as goal

pub returns : goal.returns
returns c = record { runs = routes_runs }
