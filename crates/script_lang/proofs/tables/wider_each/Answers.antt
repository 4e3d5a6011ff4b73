use Rattle.std.proofs.Common.{[], ◌∷◌, length, length-append, refl, ap, arith}
use Rattle.script_lang.proofs.TypeLemmas.{wider_more}
use Rattle.script_lang.proofs.tables.wider_each.Goals as goal

-- one component more
pub loop-i-preserved : goal.loop-i-preserved
loop-i-preserved c =
    let more = wider_more c.args.a c.args.b c.loop-i.i c.at-in-loop-i.result c.at-in-loop-i-2.result c.at-in-loop-i.ensures c.at-in-loop-i-2.ensures in
    record {
      so_far = rw (c.push-ty.ensures, more, c.loop-i.invariant.so_far, c.wider-in-loop-i.ensures.value) refl;
      few = omega (arith, length-append c.loop-i.ty (c.wider-in-loop-i.result ∷ []), ap length c.push-ty.ensures, c.loop-i.invariant.few);
    }
