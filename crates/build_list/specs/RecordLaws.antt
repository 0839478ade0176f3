-- The first record of a key list: which number applies to it, or what its key and the rest are; by the bytes, then by position in the list.
use Rattle.std.specs.Prelude.{◌≡◌, true, false, ◌&&◌, ◌∷◌, ℕ, suc, ◌+◌, ◌-◌, ◌≤◌, ◌<◌, length, get_or, take, drop, eqb, Ok, Err}
use Rattle.std.proofs.Common.{sym, ap, ap₂, ◌∙◌, arith, length-drop, drop-cons, drop-drop, get_or-drop}
use borrow.Author.Tests.{lt-ltb, le-ltb, eq-eqb, ne_eqb}
use Rattle.spec.specs.Bytes.{Bytes}
use Rattle.spec.specs.Keys.{below, refused, with_key, parse_records}
use Rattle.bits.specs.Bits.{key}
use Rattle.build_list.specs.KeyList.{RecordRead}
use Rattle.image.specs.declared.refusals.Refusal.TheVariants.{ListMalformed, KeyLengthWrong, TooManyKeys}

-- by the bytes: b, and t behind it
module _ (f done : ℕ) (last : Bytes) (b : ℕ) (t : Bytes) where
  many : done ≡ 65535 → parse_records (suc f) done last (b ∷ t) ≡ refused 4
  unfolding parse_records
  many h = rw (eq-eqb done 65535 h, parse_records)

  module _ (room : done ≡ 65535 → ⊥) where
    short : length t < 2 → parse_records (suc f) done last (b ∷ t) ≡ refused 1
    unfolding parse_records
    short h = rw (ne_eqb done 65535 room, lt-ltb (length t) 2 h, parse_records)

    module _ (two : 2 ≤ length t) where
      unmarked : eqb b 75 && eqb (get_or t 0 0) 89 ≡ false → parse_records (suc f) done last (b ∷ t) ≡ refused 1
      unfolding parse_records
      unmarked h = rw (ne_eqb done 65535 room, le-ltb (length t) 2 two, h, parse_records)

      module _ (mark : eqb b 75 && eqb (get_or t 0 0) 89 ≡ true) where
        none : get_or t 1 0 ≡ 0 → parse_records (suc f) done last (b ∷ t) ≡ refused 2
        unfolding parse_records
        none h = rw (ne_eqb done 65535 room, le-ltb (length t) 2 two, mark, eq-eqb (get_or t 1 0) 0 h, parse_records)

        module _ (some : get_or t 1 0 ≡ 0 → ⊥) where
          long : 64 < get_or t 1 0 → parse_records (suc f) done last (b ∷ t) ≡ refused 2
          unfolding parse_records
          long h = rw (ne_eqb done 65535 room, le-ltb (length t) 2 two, mark, ne_eqb (get_or t 1 0) 0 some, lt-ltb 64 (get_or t 1 0) h, parse_records)

          module _ (small : get_or t 1 0 ≤ 64) where
            missing : length t < get_or t 1 0 + 2 → parse_records (suc f) done last (b ∷ t) ≡ refused 1
            unfolding parse_records
            missing h = rw (ne_eqb done 65535 room, le-ltb (length t) 2 two, mark, ne_eqb (get_or t 1 0) 0 some, le-ltb 64 (get_or t 1 0) small, lt-ltb (length t) (get_or t 1 0 + 2) h, parse_records)

            module _ (whole : get_or t 1 0 + 2 ≤ length t) where
              not_above : below last (take (get_or t 1 0) (drop 2 t)) ≡ false → parse_records (suc f) done last (b ∷ t) ≡ refused 3
              unfolding parse_records
              not_above h = rw (ne_eqb done 65535 room, le-ltb (length t) 2 two, mark, ne_eqb (get_or t 1 0) 0 some, le-ltb 64 (get_or t 1 0) small, le-ltb (length t) (get_or t 1 0 + 2) whole, h, parse_records)

              above : below last (take (get_or t 1 0) (drop 2 t)) ≡ true
                  → parse_records (suc f) done last (b ∷ t) ≡ with_key (take (get_or t 1 0) (drop 2 t)) (parse_records f (suc done) (take (get_or t 1 0) (drop 2 t)) (drop (get_or t 1 0 + 2) t))
              unfolding parse_records
              above h = rw (ne_eqb done 65535 room, le-ltb (length t) 2 two, mark, ne_eqb (get_or t 1 0) 0 some, le-ltb 64 (get_or t 1 0) small, le-ltb (length t) (get_or t 1 0 + 2) whole, h, parse_records)

-- by position
module _ (s : Bytes) (at done : ℕ) (in_List : at < length s) where
  front : (f : ℕ) (last : Bytes) → parse_records (suc f) done last (drop at s) ≡ parse_records (suc f) done last (get_or s at 0 ∷ drop (suc at) s)
  front f last = ap (parse_records (suc f) done last) (drop-cons s at 0 in_List)

  behind : length (drop (suc at) s) + 1 ≡ length s - at
  behind = omega (arith, length-drop (suc at) s)

  byte : (j : ℕ) → get_or (drop (suc at) s) j 0 ≡ get_or s (at + suc j) 0
  byte j = let e : suc at + j ≡ at + suc j = omega arith in get_or-drop (suc at) s j 0 ∙ ap (λ (k : ℕ). get_or s k 0) e

  -- 4, a record follows 65,535 others
  pub read_many : done ≡ 65535 → RecordRead s at done (Err TooManyKeys)
  read_many h f last = front f last ∙ many f done last (get_or s at 0) (drop (suc at) s) h

  module _ (room : done ≡ 65535 → ⊥) where
    -- 1, fewer than three bytes
    pub read_short : length s - at < 3 → RecordRead s at done (Err ListMalformed)
    read_short h f last = front f last ∙ short f done last (get_or s at 0) (drop (suc at) s) room (omega (arith, behind))

    module _ (three : 3 ≤ length s - at) where
      two : 2 ≤ length (drop (suc at) s)
      two = omega (arith, behind)

      -- 1, a wrong mark
      pub read_unmarked : eqb (get_or s at 0) 75 && eqb (get_or s (at + 1) 0) 89 ≡ false → RecordRead s at done (Err ListMalformed)
      read_unmarked h f last = front f last ∙ unmarked f done last (get_or s at 0) (drop (suc at) s) room two (rw (byte 0) h)

      module _ (first : get_or s at 0 ≡ 75) (second : get_or s (at + 1) 0 ≡ 89) (n : ℕ) (size : n ≡ get_or s (at + 2) 0) where
        marked : eqb (get_or s at 0) 75 && eqb (get_or (drop (suc at) s) 0 0) 89 ≡ true
        marked = rw (byte 0, eq-eqb (get_or s at 0) 75 first, eq-eqb (get_or s (at + 1) 0) 89 second)

        sized : get_or (drop (suc at) s) 1 0 ≡ n
        sized = byte 1 ∙ sym size

        -- 2, length 0
        pub read_none : n ≡ 0 → RecordRead s at done (Err KeyLengthWrong)
        read_none h f last = front f last ∙ none f done last (get_or s at 0) (drop (suc at) s) room two marked (sized ∙ h)

        module _ (some : n ≡ 0 → ⊥) where
          some' : get_or (drop (suc at) s) 1 0 ≡ 0 → ⊥
          some' e = some (sym sized ∙ e)

          -- 2, length over 64
          pub read_long : 64 < n → RecordRead s at done (Err KeyLengthWrong)
          read_long h f last = front f last ∙ long f done last (get_or s at 0) (drop (suc at) s) room two marked some' (omega (arith, sized))

          module _ (small : n ≤ 64) where
            small' : get_or (drop (suc at) s) 1 0 ≤ 64
            small' = omega (arith, sized)

            -- 1, key bytes missing
            pub read_missing : length s - (at + 3) < n → RecordRead s at done (Err ListMalformed)
            read_missing h f last = front f last ∙ missing f done last (get_or s at 0) (drop (suc at) s) room two marked some' small' (omega (arith, behind, sized))

            -- a whole record
            pub read_whole : done ≤ 65535 → n ≤ length s - (at + 3) → RecordRead s at done (Ok n)
            read_whole few h = record { within = omega arith; few = omega arith; low = lower; high = higher }
              where
                whole : get_or (drop (suc at) s) 1 0 + 2 ≤ length (drop (suc at) s)
                whole = omega (arith, behind, sized)

                key_is : take (get_or (drop (suc at) s) 1 0) (drop 2 (drop (suc at) s)) ≡ key s (at + 3) n
                key_is = let e : suc at + 2 ≡ at + 3 = omega arith in ap₂ (λ (m : ℕ) (t : Bytes). take m t) sized (drop-drop 2 (suc at) s ∙ ap (λ (k : ℕ). drop k s) e)

                rest_is : drop (get_or (drop (suc at) s) 1 0 + 2) (drop (suc at) s) ≡ drop (at + 3 + n) s
                rest_is = let e : suc at + (n + 2) ≡ at + 3 + n = omega arith in ap (λ (m : ℕ). drop (m + 2) (drop (suc at) s)) sized ∙ drop-drop (n + 2) (suc at) s ∙ ap (λ (k : ℕ). drop k s) e

                lower : (f : ℕ) (last : Bytes) → below last (key s (at + 3) n) ≡ false → parse_records (suc f) done last (drop at s) ≡ refused 3
                lower f last q = front f last ∙ not_above f done last (get_or s at 0) (drop (suc at) s) room two marked some' small' whole (rw key_is q)

                higher : (f : ℕ) (last : Bytes) → below last (key s (at + 3) n) ≡ true
                    → parse_records (suc f) done last (drop at s) ≡ with_key (key s (at + 3) n) (parse_records f (suc done) (key s (at + 3) n) (drop (at + 3 + n) s))
                higher f last q =
                    front f last ∙ above f done last (get_or s at 0) (drop (suc at) s) room two marked some' small' whole (rw key_is q)
                    ∙ ap₂ (λ (k r : Bytes). with_key k (parse_records f (suc done) k r)) key_is rest_is

-- what refuses a record, for the proof of its reading
pub ruleset records_refused = (read_many, read_short, read_unmarked, read_none, read_long, read_missing)
