use Rattle.std.proofs.lemmas.Result.{err_from_is_err_and}
use Rattle.pf_render.proofs.directives.render_one.Goals as goal

pub returns-in_err-write_argument : goal.returns-in_err-write_argument
returns-in_err-write_argument g c =
    let p = err_from_is_err_and c.from_residual.result c.from_residual.ensures.1 in
    let out = c.in_err-write_argument.ensures in
    (out.0, out.1, rw (p.1, p.2) out.2)
