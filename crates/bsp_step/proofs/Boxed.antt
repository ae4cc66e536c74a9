-- What a context has issued, which lies in a box: what is added through the box is added to it.
use Rattle.std.proofs.Common.{◌≡◌, ap}
use Rattle.bsp_step.specs.Context.{Context}
use Rattle.bsp_step.specs.Inside.Gathered.{Gathered}

abbrev pub issued_of : Context → Gathered
issued_of c =
    record { earlier = c.earlier; puts = c.puts; gets = c.gets; sends = c.sends; pops = c.pops; pushes = c.pushes; lines = c.lines }

abbrev pub with_issued : Context → Gathered → Context
with_issued c g =
    record c { puts = g.puts; gets = g.gets; sends = g.sends; pops = g.pops; pushes = g.pushes; lines = g.lines; earlier = g.earlier }

-- what is read in the box is the context's
pub same-issued : (c : Context) (g : Gathered) → g ≡ issued_of c → with_issued c g ≡ c
same-issued c g e = ap (with_issued c) e
