-- An image that passed the numbers 11 to 15, by its frame: what number 16 may take for granted.
use Rattle.std.specs.Prelude.{◌*◌, ◌≡◌, Bool, true, [], ◌∷◌}
use Rattle.std.proofs.Math.Path.{sym, ap}
use Rattle.std.proofs.Common.{◌∙◌}
use Rattle.std.proofs.Math.Dec.{eqb}
use borrow.Author.Tests.{eqb-true}
use Rattle.spec.specs.Bytes.{Bytes, all, ones}
use Rattle.spec.specs.Frame.{read_settings, Parts, parts}
use Rattle.spec.specs.Nodes.{zip_entries, split, extra_ends, sparse_nodes, nodes_of, levels_of}
use Rattle.spec.specs.Trie.{first_set, covered, nodes_valid, builders_trie}
use Rattle.spec.specs.Check.{ranks_valid, slots_valid}
use Rattle.image.specs.FrameOf.{FrameOf, frame_named, frame_parts}
use Rattle.image.specs.declared.Frame.{Frame}
use Rattle.check_levels.specs.Positions.{bits, ones_all}
use Rattle.check_levels.specs.Bodies.{dl_body, dc_body, sl_body, sc_body, sb_body}
use Rattle.check_levels.specs.Levels.{LoudsValid}
use Rattle.theory.proofs.Lists.{every_true}

-- number 16 does not apply
abbrev pub slots_pass : Bytes → Frame → Bool
slots_pass s f = slots_valid (read_settings s).hash_width 0 (levels_of (nodes_of (parts s (frame_named s f))))

-- the image passed the numbers 11 to 15
pub record PassedTo15 (s : Bytes) (f : Frame) : Type 0 where
  -- 11 and 12: the image has this frame
  pub frame : FrameOf s f
  -- 14: its bits and labels are a builder's trie
  pub trie : builders_trie (parts s (frame_named s f)) ≡ true
  -- 15: its rank tables and samples are those of its bits
  pub ranks : ranks_valid (parts s (frame_named s f)) (frame_named s f) ≡ true

-- what number 14 says of the bits
pub record BitsValid (s : Bytes) (f : Frame) : Type 0 where
  -- S-LOUDS starts with a node, and has a one for as many as there are
  pub louds : LoudsValid s f
  -- what continues in a dense node is a label of it
  pub within : covered (bits (dc_body s f) (256 * f.dense.nodes)) (bits (dl_body s f) (256 * f.dense.nodes)) ≡ true
  -- the extra FF of a sparse node does not continue
  pub extra : all extra_ends (split (zip_entries (sl_body s f) (bits (sc_body s f) f.sparse.entries)) (bits (sb_body s f) f.sparse.entries)) ≡ true
  -- the nodes are those of a builder's trie
  pub nodes : nodes_valid f.dense.levels f.dense.nodes f.leaves (nodes_of (frame_parts s f)) ≡ true

module _ (s : Bytes) (f : Frame) (j : PassedTo15 s f) where
  -- number 14 over the frame's parts
  pub trie_valid : builders_trie (frame_parts s f) ≡ true
  trie_valid = ap builders_trie (sym j.frame.parts_are) ∙ j.trie

  pub bits_pass : BitsValid s f
  unfolding builders_trie sparse_nodes
  bits_pass =
      let p : Parts = frame_parts s f in
      let q = every_true (first_set p.sb ∷ eqb (ones p.sb) p.counts.sparse_nodes ∷ covered p.dc p.dl ∷ all extra_ends (sparse_nodes p) ∷ nodes_valid p.settings.dense_levels p.counts.dense_nodes p.counts.leaves (nodes_of p) ∷ []) trie_valid in
      record {
        louds = record {
          frame = j.frame;
          first = q.0;
          count = sym (ones_all (sb_body s f) f.sparse.entries) ∙ eqb-true (ones p.sb) f.sparse.nodes q.1.0;
        };
        within = q.1.1.0;
        extra = q.1.1.1.0;
        nodes = q.1.1.1.1.0;
      }

  -- number 16 over the frame's parts
  pub slots_parts : slots_pass s f ≡ slots_valid f.hash_width 0 (levels_of (nodes_of (frame_parts s f)))
  unfolding parts
  slots_parts = ap (λ (p : Parts). slots_valid p.settings.hash_width 0 (levels_of (nodes_of p))) j.frame.parts_are
