-- Each field is read at its offset.
use native.Mathlib.Omega.{arith}
use Rattle.spec.specs.Frame.{read_settings, read_counts}
use Rattle.image.proofs.header_bytes.read_header.Goals as goal

pub returns : goal.returns
unfolding read_counts read_settings
returns c =
    let v = c.from.ensures in
    let n = c.from-2.ensures in
    let h = c.from-3.ensures in
    let l = c.read32.ensures in
    let d = c.from-4.ensures in
    let dn = c.read32-2.ensures in
    let sn = c.read32-3.ensures in
    let se = c.read32-4.ensures in
    record {
      settings = rw (v, d, n, h);
      counts = rw (l.0, dn.0, se.0, sn.0);
      short = record { version = omega (arith, v); dense_range = omega (arith, d); real_range = omega (arith, n); hash_range = omega (arith, h); leaves = l.1; dense_nodes = dn.1; sparse_entries = se.1; sparse_nodes = sn.1 };
    }
