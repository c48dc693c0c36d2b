-- The pairs of a shot are the product of its three spans.
use Rattle.std.proofs.Common.{arith}
use Rattle.job.specs.Job.{shot_at}
use Rattle.job.proofs.Shots.{stay-at}
use Rattle.grid.proofs.NeedLaws.{span-asked, span-alike, span-few, square-few, product-few, pairs-of-spans}
use Rattle.grid.proofs.need.pairs_of.Goals as goal

pub span-x-requires : goal.span-x-requires
span-x-requires c =
    let p = span-asked c.args.list.valid c.requires.width_value c.requires.quotients c.x_of.result c.edge_of-side.result (omega (arith, c.x_of.ensures, c.edge_of-side.ensures, (stay-at c.args.list.job.field c.args.list.job.edge c.args.list.job.coords.now c.args.list.valid.inside c.args.shot c.requires.shot_bound).x_in)) in
    record { le_width = p.0; edge_bound = p.1.0; quotients = p.1.1 }

pub span-y-requires : goal.span-y-requires
span-y-requires c =
    let p = span-asked c.args.list.valid c.requires.width_value c.requires.quotients c.y_of.result c.edge_of-side.result (omega (arith, c.y_of.ensures, c.edge_of-side.ensures, (stay-at c.args.list.job.field c.args.list.job.edge c.args.list.job.coords.now c.args.list.valid.inside c.args.shot c.requires.shot_bound).y_in)) in
    record { le_width = p.0; edge_bound = p.1.0; quotients = p.1.1 }

pub span-z-requires : goal.span-z-requires
span-z-requires c =
    let p = span-asked c.args.list.valid c.requires.width_value c.requires.quotients c.z_of.result c.edge_of-side.result (omega (arith, c.z_of.ensures, c.edge_of-side.ensures, (stay-at c.args.list.job.field c.args.list.job.edge c.args.list.job.coords.now c.args.list.valid.inside c.args.shot c.requires.shot_bound).z_in)) in
    record { le_width = p.0; edge_bound = p.1.0; quotients = p.1.1 }

pub overflow_mul-result : goal.overflow_mul-result
overflow_mul-result c = let edge = c.edge_of-side.result in
    let x = span-few c.args.list.job.grid c.args.width c.x_of.result edge c.args.list.valid.grid_most c.span-x.ensures in
    let y = span-few c.args.list.job.grid c.args.width c.y_of.result edge c.args.list.valid.grid_most c.span-y.ensures in
    grind (arith, square-few)

pub overflow_mul-result-2 : goal.overflow_mul-result-2
overflow_mul-result-2 c = let edge = c.edge_of-side.result in
    let x = span-few c.args.list.job.grid c.args.width c.x_of.result edge c.args.list.valid.grid_most c.span-x.ensures in
    let y = span-few c.args.list.job.grid c.args.width c.y_of.result edge c.args.list.valid.grid_most c.span-y.ensures in
    let z = span-few c.args.list.job.grid c.args.width c.z_of.result edge c.args.list.valid.grid_most c.span-z.ensures in
    grind (arith, product-few)

pub returns : goal.returns
returns c = let edge = c.edge_of-side.ensures in
    let x = span-alike c.args.list.job.grid c.span-x.ensures c.requires.width_value c.x_of.ensures edge in
    let y = span-alike c.args.list.job.grid c.span-y.ensures c.requires.width_value c.y_of.ensures edge in
    let z = span-alike c.args.list.job.grid c.span-z.ensures c.requires.width_value c.z_of.ensures edge in
    pairs-of-spans c.args.list.job.field c.args.list.job.grid (shot_at c.args.list.job.edge c.args.list.job.coords.now c.args.shot) x y z
