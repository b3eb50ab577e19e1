use Rattle.fmtcanon_c.proofs.EndedLemmas.{put_ended}
use Rattle.fmtcanon_c.proofs.rendering.render_ended.Goals as goal

pub returns-then-len-cap : goal.returns-then-len-cap
returns-then-len-cap c =
    let out = c.in-Ok.ensures in (
      out.0,
      out.1,
      (
        out.2.0,
        out.2.1,
        put_ended out.0 c.args.out.now _ _ _ _ c.in-Ok.len c.split_at_mut-front.ensures.front c.split_at_mut-front.ensures.back
            c.saturating_sub.ensures out.2.2 out.2.0 c.if-len-cap.true,
      ),
    )
