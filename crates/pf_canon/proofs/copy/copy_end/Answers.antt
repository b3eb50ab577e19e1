use Rattle.std.proofs.Common.{refl, inl, inr}
use Rattle.pf_canon.specs.Output.{output_text}
use Rattle.pf_canon.proofs.CopyLemmas.{all_copied, first_copied, settled_out}
use Rattle.pf_canon.proofs.copy.copy_end.Goals as goal

pub returns-in-Ok-write_output-clause-copied : goal.returns-in-Ok-write_output-clause-copied
returns-in-Ok-write_output-clause-copied g c model taken start0 left start reader end h =
    all_copied model g.W.Write.contents c.args.w.now c.write_output.new.w h.out
    (output_text c.in-Ok.output) start c.args.written h.writer h.count start0 left taken c.args.transducer.now h.items reader end h.through
    c.in-Ok.ensures.few c.in-Ok.output refl
    (c.in-Ok.ensures.ended model taken h.out h.items h.through) _ c.in-Ok-write_output.ensures

pub returns-in-Err-write_output-clause-copied : goal.returns-in-Err-write_output-clause-copied
returns-in-Err-write_output-clause-copied g c model taken start0 left start reader end h =
    inr (first_copied model g.W.Write.contents c.args.w.now c.write_output.new.w h.out
    (output_text c.in-Ok.output) start c.args.written h.writer h.count start0 left taken c.args.transducer.now h.items reader end h.through
    c.in-Ok.ensures.few c.in-Ok.output refl
    (c.in-Ok.ensures.ended model taken h.out h.items h.through) c.in-Err-write_output.written c.in-Err-write_output.ensures)

pub returns-in-Err-clause-copied : goal.returns-in-Err-clause-copied
returns-in-Err-clause-copied g c model taken start0 left start reader end h =
    let e = c.in-Err.ensures.ended model taken h.out h.items h.through in
    inl (
      taken,
      record {
        reader = reader;
        end = end;
        offset = e.1;
        kind = e.0;
        refused = e.2;
        out = settled_out model c.args.transducer.now taken start _ c.args.written h;
      },
    )
