use Rattle.std.proofs.Common.{ap, arith, rules}
use Rattle.std.proofs.lemmas.Bool.Decides.{nat_tests}
use Rattle.pf_text.specs.PieceHistory.{items_of}
use Rattle.pf_render.proofs.GatheringLemmas.{all_gathered, argument_gathered, bytes_gathered, literal_gathered}
use Rattle.pf_render.proofs.gathering.gather.Goals as goal

pub loop-piece-preserved-in-Directive : goal.loop-piece-preserved-in-Directive
loop-piece-preserved-in-Directive g c =
    let taken = c.gather_directive.ensures (search rules) in
    record {
      can = tt;
      finite = tt;
      so_far = argument_gathered c.args.model g.met.O.Output.laws c.loop-piece.invariant.so_far c.in-Some.ensures.steps c.in-Ok.is _ _
          (ap items_of c.in-Directive.is) taken.0 taken.1
          taken.2;
    }

pub loop-piece-preserved-else-not-gather_bytes : goal.loop-piece-preserved-else-not-gather_bytes
loop-piece-preserved-else-not-gather_bytes g c =
    record {
      can = tt;
      finite = tt;
      so_far = literal_gathered c.args.model g.met.O.Output.laws c.loop-piece.invariant.so_far c.in-Some.ensures.steps c.in-Ok.is _ _
          (ap items_of c.in-Literal.is)
          (bytes_gathered c.args.model g.met.O.Output.laws _ _ _ (c.gather_bytes.ensures (search rules)));
    }

pub loop-piece-preserved : goal.loop-piece-preserved
loop-piece-preserved g c =
    record {
      can = tt;
      finite = tt;
      so_far = literal_gathered c.args.model g.met.O.Output.laws c.loop-piece.invariant.so_far c.in-Some.ensures.steps c.in-Ok.is _ _
          (ap items_of c.in-Percent.is)
          (bytes_gathered c.args.model g.met.O.Output.laws _ _ _ (c.gather_bytes-in-Percent.ensures (search rules)));
    }

pub returns : goal.returns
returns g c all = all_gathered c.args.model g.met.O.Output.laws c.loop-piece.invariant.so_far c.in-None.ensures.steps (grind (arith, nat_tests))
