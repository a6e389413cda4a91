-- A line is read as a frame exactly where it spells that frame.
use Rattle.std.proofs.Common.{◌≡◌, ℕ, zero, suc, ◌+◌, ◌*◌, ◌/◌, ◌%◌, ◌^◌, ◌<◌, ◌≤◌, Bool, true, false, cond, ◌&&◌, eqb, ltb, leb, List, [], ◌∷◌, ◌++◌, length, take, drop, Some, None, Ok, Err, Option, Result, unwrap_or, sym, refl, ap, ◌∙◌, subst, arith}
use Rattle.std.proofs.lemmas.List.{drop_more, drop-drop, drop_all, length-drop}
use Rattle.std.proofs.lemmas.Nat.{shr-shr}
use Rattle.std.proofs.lemmas.Bool.{leb-true, le-leb, ltb-true, eqb-true, eqb-false, eq-eqb, ne_eqb, and_parts, and_from, cond-true, cond-false}
use Rattle.digits.specs.Digits.{big_endian, bytes_in}
use Rattle.digits.proofs.Bytes.{drop_bytes, field_below}
use Rattle.tables.specs.declared.refusal.Refusal.{Refusal}
use Rattle.tables.specs.declared.refusal.Refusal.TheVariants.{MalformedLine, UnknownFrame, FieldValue}
use Rattle.tables.specs.declared.index.ModuleIdx.{ModuleIdx}
use Rattle.tables.specs.declared.module.ModuleFlags.{ModuleFlags}
use Rattle.tables.specs.declared.module.WrapKind.{WrapKind}
use Rattle.tables.specs.declared.module.WrapKind.TheVariants as wraps
use Rattle.tables.specs.declared.module.ImportKind.{ImportKind}
use Rattle.tables.specs.declared.module.ImportKind.TheVariants.{Other, Import}
use Rattle.tables.specs.declared.module.EntryPointKind.{EntryPointKind}
use Rattle.tables.specs.declared.module.EntryPointKind.TheVariants.{UserDefined, EmittedUserDefined, DynamicImport}
use Rattle.tables.specs.declared.module.ChunkModulesOrderBy.{ChunkModulesOrderBy}
use Rattle.tables.specs.declared.module.ChunkModulesOrderBy.TheVariants.{ExecOrder, ModuleId}
use Rattle.frames.specs.Text.{Said, options, a_module, import_record, listed, entry, linking, unlinking, including, excluding, drawing, bytes_of, letter, fits, frame_of, field, module_at, order_by, resolved, fields}
use Rattle.tables.specs.Kinds.{bit, wrap_of, flags_of, import_kind, entry_kind}
use Rattle.frames.specs.Spelling.{two, four, flag, wrap_bits, flag_bits, order_bits, option_bits, import_number, entry_number, target, spell, Names, FitsFields, IdIn, Spells, Reads, ReadsWhatIsSpelled}

-- numbers and their bytes
two_read : (n : ℕ) → big_endian (two n) ≡ n
two_read n = omega arith

four_read : (n : ℕ) → big_endian (four n) ≡ n
four_read n = omega arith

front_two : (line bytes : List ℕ) → bytes_in line ≡ Some bytes → 2 ≤ length bytes → two (big_endian (take 2 bytes)) ++ drop 2 bytes ≡ bytes
front_two line [] e h = absurd (omega arith)
front_two line (a ∷ []) e h = absurd (omega arith)
front_two line (a ∷ (b ∷ rest)) e h =
    let low = field_below 1 2 line (a ∷ (b ∷ rest)) e in
    let p : big_endian (a ∷ (b ∷ [])) / 256 ≡ a = omega arith in
    let q : big_endian (a ∷ (b ∷ [])) % 256 ≡ b = omega arith in
    cc

front_four : (line bytes : List ℕ) → bytes_in line ≡ Some bytes → 4 ≤ length bytes → four (big_endian (take 4 bytes)) ++ drop 4 bytes ≡ bytes
front_four line [] e h = absurd (omega arith)
front_four line (a ∷ []) e h = absurd (omega arith)
front_four line (a ∷ (b ∷ [])) e h = absurd (omega arith)
front_four line (a ∷ (b ∷ (c ∷ []))) e h = absurd (omega arith)
front_four line (a ∷ (b ∷ (c ∷ (d ∷ rest)))) e h =
    let x = field_below 1 2 line (a ∷ (b ∷ (c ∷ (d ∷ rest)))) e in
    let y = field_below 2 3 line (a ∷ (b ∷ (c ∷ (d ∷ rest)))) e in
    let z = field_below 3 4 line (a ∷ (b ∷ (c ∷ (d ∷ rest)))) e in
    let p : big_endian (a ∷ (b ∷ (c ∷ (d ∷ [])))) / 2 ^ 24 ≡ a = omega arith in
    let q : big_endian (a ∷ (b ∷ (c ∷ (d ∷ [])))) / 2 ^ 16 % 256 ≡ b = omega arith in
    let r : big_endian (a ∷ (b ∷ (c ∷ (d ∷ [])))) / 256 % 256 ≡ c = omega arith in
    let s : big_endian (a ∷ (b ∷ (c ∷ (d ∷ [])))) % 256 ≡ d = omega arith in
    cc

front_one : (bytes : List ℕ) → 1 ≤ length bytes → big_endian (take 1 bytes) ∷ drop 1 bytes ≡ bytes
front_one [] h = absurd (omega arith)
front_one (a ∷ rest) h = ap (λ n. n ∷ rest) (omega arith)

-- the field from place i on, before the bytes that follow it
module _ (line bytes : List ℕ) (e : bytes_in line ≡ Some bytes) where
  one_at : (i : ℕ) → i + 1 ≤ length bytes → big_endian (take 1 (drop i bytes)) ∷ drop (i + 1) bytes ≡ drop i bytes
  one_at i h =
      ap (λ l. big_endian (take 1 (drop i bytes)) ∷ l) (sym (drop-drop 1 i bytes))
      ∙ front_one (drop i bytes) (omega (arith, length-drop i bytes))

  two_at : (i : ℕ) → i + 2 ≤ length bytes → two (big_endian (take 2 (drop i bytes))) ++ drop (i + 2) bytes ≡ drop i bytes
  two_at i h =
      ap (λ l. two (big_endian (take 2 (drop i bytes))) ++ l) (sym (drop-drop 2 i bytes))
      ∙ front_two (drop (2 * i) line) (drop i bytes) (drop_bytes i line bytes e) (omega (arith, length-drop i bytes))

  four_at : (i : ℕ) → i + 4 ≤ length bytes → four (big_endian (take 4 (drop i bytes))) ++ drop (i + 4) bytes ≡ drop i bytes
  four_at i h =
      ap (λ l. four (big_endian (take 4 (drop i bytes))) ++ l) (sym (drop-drop 4 i bytes))
      ∙ front_four (drop (2 * i) line) (drop i bytes) (drop_bytes i line bytes e) (omega (arith, length-drop i bytes))

-- flags and their bits
weight : (k x : ℕ) → x < 2 → flag (eqb x 1) k ≡ 2 ^ k * x
weight k zero h = omega arith
weight k (suc zero) h = omega arith
weight k (suc (suc x)) h = absurd (omega arith)

flag_is : (k n : ℕ) → flag (bit k n) k ≡ 2 ^ k * (n / 2 ^ k % 2)
flag_is k n = weight k (n / 2 ^ k % 2) (omega arith)

flag_size : (b : Bool) (k : ℕ) → flag b k ≡ 2 ^ k * cond b 1 0
flag_size true k = omega arith
flag_size false k = omega arith

flag_most : (b : Bool) → cond b 1 0 ≤ 1
flag_most true = omega arith
flag_most false = omega arith

bit_of : (b : Bool) (n : ℕ) → n % 2 ≡ cond b 1 0 → eqb (n % 2) 1 ≡ b
bit_of true n h = eq-eqb (n % 2) 1 h
bit_of false n h = ne_eqb (n % 2) 1 (λ e. omega arith)

-- the numbers of the kinds
wrap_back : (m : ℕ) (w : WrapKind) → wrap_of m ≡ Some w → wrap_bits w ≡ 16 * m
wrap_back zero w e = let is : w ≡ wraps.None = cc in rw is refl
wrap_back (suc zero) w e = let is : w ≡ wraps.Cjs = cc in rw is refl
wrap_back (suc (suc zero)) w e = let is : w ≡ wraps.Esm = cc in rw is refl
wrap_back (suc (suc (suc m))) w e =
    let none : wrap_of (suc (suc (suc m))) ≡ None = cond-false _ _ _ (ne_eqb (suc (suc (suc m))) 0 (λ h. omega arith)) ∙ cond-false _ _ _ (ne_eqb (suc (suc (suc m))) 1 (λ h. omega arith)) ∙ cond-false _ _ _ (ne_eqb (suc (suc (suc m))) 2 (λ h. omega arith)) in
    let no_some : ◌≡◌ {A = ℕ} 0 1 = cc in
    absurd (omega arith)

wrap_read : (w : WrapKind) → (v : ℕ) × (wrap_bits w ≡ 16 * v) × (wrap_of v ≡ Some w)
wrap_read wraps.None = (0, refl, refl)
wrap_read wraps.Cjs = (1, refl, refl)
wrap_read wraps.Esm = (2, refl, refl)

import_back : (v : ℕ) (k : ImportKind) → import_kind v ≡ Some k → import_number k ≡ v
import_back zero k e = let is : k ≡ Other = cc in rw is refl
import_back (suc zero) k e = let is : k ≡ Import = cc in rw is refl
import_back (suc (suc v)) k e =
    let none : import_kind (suc (suc v)) ≡ None = cond-false _ _ _ (ne_eqb (suc (suc v)) 0 (λ h. omega arith)) ∙ cond-false _ _ _ (ne_eqb (suc (suc v)) 1 (λ h. omega arith)) in
    let no_some : ◌≡◌ {A = ℕ} 0 1 = cc in
    absurd (omega arith)

import_read : (k : ImportKind) → import_kind (import_number k) ≡ Some k
import_read Other = refl
import_read Import = refl

entry_back : (v : ℕ) (k : EntryPointKind) → entry_kind v ≡ Some k → entry_number k ≡ v
entry_back zero k e = let is : k ≡ UserDefined = cc in rw is refl
entry_back (suc zero) k e = let is : k ≡ EmittedUserDefined = cc in rw is refl
entry_back (suc (suc zero)) k e = let is : k ≡ DynamicImport = cc in rw is refl
entry_back (suc (suc (suc v))) k e =
    let none : entry_kind (suc (suc (suc v))) ≡ None = cond-false _ _ _ (ne_eqb (suc (suc (suc v))) 0 (λ h. omega arith)) ∙ cond-false _ _ _ (ne_eqb (suc (suc (suc v))) 1 (λ h. omega arith)) ∙ cond-false _ _ _ (ne_eqb (suc (suc (suc v))) 2 (λ h. omega arith)) in
    let no_some : ◌≡◌ {A = ℕ} 0 1 = cc in
    absurd (omega arith)

entry_read : (k : EntryPointKind) → entry_kind (entry_number k) ≡ Some k
entry_read UserDefined = refl
entry_read EmittedUserDefined = refl
entry_read DynamicImport = refl

-- the flags of a module, out of a number and back into it
abbrev flags_with : Bool → Bool → Bool → Bool → Option WrapKind → Option ModuleFlags
flags_with e i j s o = elim o [ Some wrap ↦ Some (record { external = e; included = i; json = j; order_sensitive = s; wrap_kind = wrap }) | None ↦ None ]

flags_back_with : (n : ℕ) (o : Option WrapKind) (flags : ModuleFlags) → wrap_of (n / 16) ≡ o → flags_with (bit 0 n) (bit 1 n) (bit 2 n) (bit 3 n) o ≡ Some flags → flag_bits flags ≡ n
flags_back_with n (Some w) flags p e =
    let made : ModuleFlags = record { external = bit 0 n; included = bit 1 n; json = bit 2 n; order_sensitive = bit 3 n; wrap_kind = w } in
    let is : made ≡ flags = cc in
    sym (ap flag_bits is) ∙ omega (arith, flag_is 0 n, flag_is 1 n, flag_is 2 n, flag_is 3 n, wrap_back (n / 16) w p, shr-shr n 1 1, shr-shr n 2 1, shr-shr n 3 1)
flags_back_with n None flags p e = let no_some : ◌≡◌ {A = ℕ} 0 1 = cc in absurd (omega arith)

flags_back : (n : ℕ) (flags : ModuleFlags) → flags_of n ≡ Some flags → flag_bits flags ≡ n
flags_back n flags e = flags_back_with n (wrap_of (n / 16)) flags refl e

module _ (m : ModuleFlags) where
  abbrev sum : ℕ
  sum = flag_bits m

  parts : sum ≡ cond m.external 1 0 + 2 * cond m.included 1 0 + 4 * cond m.json 1 0 + 8 * cond m.order_sensitive 1 0 + 16 * (wrap_read m.wrap_kind).0
  parts = omega (arith, flag_size m.external 0, flag_size m.included 1, flag_size m.json 2, flag_size m.order_sensitive 3, (wrap_read m.wrap_kind).1)

  flags_read : flags_of sum ≡ Some m
  flags_read =
      let a = flag_most m.external in
      let b = flag_most m.included in
      let c = flag_most m.json in
      let d = flag_most m.order_sensitive in
      let w : sum / 16 ≡ (wrap_read m.wrap_kind).0 = omega (arith, parts) in
      ap (λ v. flags_with (bit 0 sum) (bit 1 sum) (bit 2 sum) (bit 3 sum) (wrap_of v)) w
      ∙ ap (flags_with (bit 0 sum) (bit 1 sum) (bit 2 sum) (bit 3 sum)) (wrap_read m.wrap_kind).2
      ∙ ap (λ x. flags_with x (bit 1 sum) (bit 2 sum) (bit 3 sum) (Some m.wrap_kind)) (bit_of m.external (sum / 2 ^ 0) (omega (arith, parts)))
      ∙ ap (λ x. flags_with m.external x (bit 2 sum) (bit 3 sum) (Some m.wrap_kind)) (bit_of m.included (sum / 2 ^ 1) (omega (arith, parts)))
      ∙ ap (λ x. flags_with m.external m.included x (bit 3 sum) (Some m.wrap_kind)) (bit_of m.json (sum / 2 ^ 2) (omega (arith, parts)))
      ∙ ap (λ x. flags_with m.external m.included m.json x (Some m.wrap_kind)) (bit_of m.order_sensitive (sum / 2 ^ 3) (omega (arith, parts)))

-- the options, out of a number and back into it
order_flag : (b : Bool) → order_bits (order_by b) ≡ flag b 1
order_flag true = refl
order_flag false = refl

options_back : (v : ℕ) → v < 4 → flag (bit 0 v) 0 + order_bits (order_by (bit 1 v)) ≡ v
options_back v h = omega (arith, order_flag (bit 1 v), flag_is 0 v, flag_is 1 v)

options_read : (s : Bool) (k : ChunkModulesOrderBy) → (ltb (flag s 0 + order_bits k) 4 ≡ true) × (bit 0 (flag s 0 + order_bits k) ≡ s) × (order_by (bit 1 (flag s 0 + order_bits k)) ≡ k)
options_read true ExecOrder = (refl, refl, refl)
options_read true ModuleId = (refl, refl, refl)
options_read false ExecOrder = (refl, refl, refl)
options_read false ModuleId = (refl, refl, refl)

-- the number that stands for no module
abbrev target_in : Bool → ℕ → Option ModuleIdx
target_in b v = cond b None (Some (record { 0 = v }))

target_back : (b : Bool) (v : ℕ) → eqb v 65535 ≡ b → v < 65536 → (target (target_in b v) ≡ v) × Names (target_in b v)
target_back true v e h = (sym (eqb-true v 65535 e), tt)
target_back false v e h = (refl, let ne = eqb-false v 65535 e in omega arith)

target_read : (o : Option ModuleIdx) → Names o → target_in (eqb (target o) 65535) (target o) ≡ o
target_read (Some m) h = cond-false _ _ _ (ne_eqb m.0 65535 (λ e. omega arith))
target_read None h = refl

-- what is to be shown of the bytes of a line that is read as a frame
abbrev Told : List ℕ → List ℕ → Said → Type 0
Told line bytes f = (bytes ≡ spell f) × FitsFields f × IdIn line f

told : (line bytes : List ℕ) (x f : Said) → ◌≡◌ {A = Result Said Refusal} (Ok x) (Ok f) → Told line bytes x → Told line bytes f
told line bytes x f e t =
    let is : x ≡ f = cc in
    let P : Said → Type 0 = λ g. Told line bytes g in
    subst P is t

-- what is read once the flags or the kind are known
abbrev options_with : ℕ → ModuleIdx → Bool → Result Said Refusal
options_with v m b = cond b (Ok (options (record { code_splitting = bit 0 v; chunk_modules_order = order_by (bit 1 v); runtime_module = m }))) (Err FieldValue)

abbrev module_with : List ℕ → ℕ → Option ModuleFlags → Result Said Refusal
module_with line order o = elim o [ Some flags ↦ Ok (a_module flags order (drop 14 line) 14) | None ↦ Err FieldValue ]

abbrev record_with : Option ModuleIdx → Option ImportKind → Result Said Refusal
record_with m o = elim o [ Some kind ↦ Ok (import_record (record { kind = kind; resolved_module = m })) | None ↦ Err FieldValue ]

abbrev entry_with : ModuleIdx → Option EntryPointKind → Result Said Refusal
entry_with m o = elim o [ Some kind ↦ Ok (entry (record { «module» = m; kind = kind })) | None ↦ Err FieldValue ]

module _ (line bytes : List ℕ) (e : bytes_in line ≡ Some bytes) where
  start : (c : ℕ) → letter bytes ≡ c → 1 ≤ length bytes → bytes ≡ c ∷ drop 1 bytes
  start c is h = drop_more bytes 0 0 h ∙ ap (λ x. x ∷ drop 1 bytes) is

  two_end : (i : ℕ) → length bytes ≡ i + 2 → drop i bytes ≡ two (big_endian (take 2 (drop i bytes)))
  two_end i n =
      sym (two_at line bytes e i (omega arith))
      ∙ ap (λ l. two (big_endian (take 2 (drop i bytes))) ++ l) (drop_all (i + 2) bytes (omega arith))

  -- S, I and X
  one_module : (c : ℕ) → letter bytes ≡ c → length bytes ≡ 3 → bytes ≡ c ∷ two (field bytes 1 3)
  one_module c is n = start c is (omega arith) ∙ ap (λ l. c ∷ l) (two_end 1 n)

  -- L and U
  two_modules : (c : ℕ) → letter bytes ≡ c → length bytes ≡ 5 → bytes ≡ c ∷ (two (field bytes 1 3) ++ two (field bytes 3 5))
  two_modules c is n =
      start c is (omega arith)
      ∙ ap (λ l. c ∷ l) (sym (two_at line bytes e 1 (omega arith)) ∙ ap (λ l. two (field bytes 1 3) ++ l) (two_end 3 n))

  -- G
  options_told : (f : Said) (b : Bool) → letter bytes ≡ 71 → length bytes ≡ 4 → ltb (field bytes 1 2) 4 ≡ b → options_with (field bytes 1 2) (module_at bytes 2) b ≡ Ok f → Told line bytes f
  options_told f true is n small ok =
      let text : bytes ≡ 71 ∷ (field bytes 1 2 ∷ two (field bytes 2 4)) = start 71 is (omega arith) ∙ ap (λ l. 71 ∷ l) (sym (one_at line bytes e 1 (omega arith)) ∙ ap (λ l. field bytes 1 2 ∷ l) (two_end 2 n)) in
      let bits = options_back (field bytes 1 2) (ltb-true (field bytes 1 2) 4 small) in
      told line bytes _ f ok (text ∙ ap (λ v. 71 ∷ (v ∷ two (field bytes 2 4))) (sym bits), field_below 2 4 line bytes e, tt)
  options_told f false is n small ok = let ok_err : ◌≡◌ {A = ℕ} 0 1 = cc in absurd (omega arith)

  -- M
  module_told : (f : Said) (o : Option ModuleFlags) → letter bytes ≡ 77 → 7 ≤ length bytes → flags_of (field bytes 1 3) ≡ o → module_with line (field bytes 3 7) o ≡ Ok f → Told line bytes f
  module_told f (Some flags) is n some ok =
      let text : bytes ≡ 77 ∷ (two (field bytes 1 3) ++ (four (field bytes 3 7) ++ drop 7 bytes)) =
      start 77 is (omega arith)
      ∙ ap (λ l. 77 ∷ l) (sym (two_at line bytes e 1 (omega arith)) ∙ ap (λ l. two (field bytes 1 3) ++ l) (sym (four_at line bytes e 3 n))) in
      let bits = flags_back (field bytes 1 3) flags some in
      let id : bytes_of (drop 14 line) ≡ drop 7 bytes = ap (λ o. unwrap_or o []) (drop_bytes 7 line bytes e) in
      told line bytes _ f ok (
        text
            ∙ ap (λ v. 77 ∷ (two v ++ (four (field bytes 3 7) ++ drop 7 bytes))) (sym bits)
            ∙ ap (λ l. 77 ∷ (two (flag_bits flags) ++ (four (field bytes 3 7) ++ l))) (sym id),
        field_below 3 7 line bytes e,
        (refl, refl),
      )
  module_told f None is n some ok = let ok_err : ◌≡◌ {A = ℕ} 0 1 = cc in absurd (omega arith)

  -- R
  record_told : (f : Said) (o : Option ImportKind) → letter bytes ≡ 82 → length bytes ≡ 4 → import_kind (field bytes 1 2) ≡ o → record_with (resolved bytes 2) o ≡ Ok f → Told line bytes f
  record_told f (Some kind) is n some ok =
      let text : bytes ≡ 82 ∷ (field bytes 1 2 ∷ two (field bytes 2 4)) = start 82 is (omega arith) ∙ ap (λ l. 82 ∷ l) (sym (one_at line bytes e 1 (omega arith)) ∙ ap (λ l. field bytes 1 2 ∷ l) (two_end 2 n)) in
      let t = target_back (eqb (field bytes 2 4) 65535) (field bytes 2 4) refl (field_below 2 4 line bytes e) in
      told line bytes _ f ok (
        text
            ∙ ap (λ v. 82 ∷ (v ∷ two (field bytes 2 4))) (sym (import_back (field bytes 1 2) kind some))
            ∙ ap (λ v. 82 ∷ (import_number kind ∷ two v)) (sym t.0),
        t.1,
        tt,
      )
  record_told f None is n some ok = let ok_err : ◌≡◌ {A = ℕ} 0 1 = cc in absurd (omega arith)

  -- E
  entry_told : (f : Said) (o : Option EntryPointKind) → letter bytes ≡ 69 → length bytes ≡ 4 → entry_kind (field bytes 3 4) ≡ o → entry_with (module_at bytes 1) o ≡ Ok f → Told line bytes f
  entry_told f (Some kind) is n some ok =
      let text : bytes ≡ 69 ∷ (two (field bytes 1 3) ++ field bytes 3 4 ∷ []) =
      start 69 is (omega arith)
      ∙ ap (λ l. 69 ∷ l) (sym (two_at line bytes e 1 (omega arith))
      ∙ ap (λ l. two (field bytes 1 3) ++ l) (sym (one_at line bytes e 3 (omega arith)) ∙ ap (λ l. field bytes 3 4 ∷ l) (drop_all 4 bytes (omega arith)))) in
      told line bytes _ f ok (
        text ∙ ap (λ v. 69 ∷ (two (field bytes 1 3) ++ v ∷ [])) (sym (entry_back (field bytes 3 4) kind some)),
        field_below 1 3 line bytes e,
        tt,
      )
  entry_told f None is n some ok = let ok_err : ◌≡◌ {A = ℕ} 0 1 = cc in absurd (omega arith)

-- one letter after another: the test of the length and what is read go the same way
way : (G : Type 0) (b x y : Bool) (p q r : Result Said Refusal) → cond b x y ≡ true → cond b p q ≡ r → (b ≡ true → x ≡ true → p ≡ r → G) → (y ≡ true → q ≡ r → G) → G
way G true x y p q r n ok here next = here refl n ok
way G false x y p q r n ok here next = next n ok

last : (b x : Bool) → cond b x false ≡ true → (b ≡ true) × (x ≡ true)
last true x n = (refl, n)
last false x n = let false_true : ◌≡◌ {A = ℕ} 0 1 = cc in absurd (omega arith)

module _ (line bytes : List ℕ) (e : bytes_in line ≡ Some bytes) (f : Said) where
  abbrev c : ℕ
  c = letter bytes

  abbrev G : Type 0
  G = Told line bytes f

  by_letter : fits c (length bytes) ≡ true → fields c line bytes ≡ Ok f → G
  by_letter n ok =
      way G (eqb c 71) _ _ _ _ (Ok f) n ok (λ is n ok. options_told line bytes e f _ (eqb-true c 71 is) (eqb-true _ 4 n) refl ok) (λ n ok.
      way G (eqb c 77) _ _ _ _ (Ok f) n ok (λ is n ok. module_told line bytes e f _ (eqb-true c 77 is) (leb-true 7 _ n) refl ok) (λ n ok.
      way G (eqb c 82) _ _ _ _ (Ok f) n ok (λ is n ok. record_told line bytes e f _ (eqb-true c 82 is) (eqb-true _ 4 n) refl ok) (λ n ok.
      way G (eqb c 83) _ _ _ _ (Ok f) n ok (λ is n ok. told line bytes _ f ok (one_module line bytes e 83 (eqb-true c 83 is) (eqb-true _ 3 n), field_below 1 3 line bytes e, tt)) (λ n ok.
      way G (eqb c 69) _ _ _ _ (Ok f) n ok (λ is n ok. entry_told line bytes e f _ (eqb-true c 69 is) (eqb-true _ 4 n) refl ok) (λ n ok.
      way G (eqb c 76) _ _ _ _ (Ok f) n ok (λ is n ok. told line bytes _ f ok (two_modules line bytes e 76 (eqb-true c 76 is) (eqb-true _ 5 n), (field_below 1 3 line bytes e, field_below 3 5 line bytes e), tt)) (λ n ok.
      way G (eqb c 85) _ _ _ _ (Ok f) n ok (λ is n ok. told line bytes _ f ok (two_modules line bytes e 85 (eqb-true c 85 is) (eqb-true _ 5 n), (field_below 1 3 line bytes e, field_below 3 5 line bytes e), tt)) (λ n ok.
      way G (eqb c 73) _ _ _ _ (Ok f) n ok (λ is n ok. told line bytes _ f ok (one_module line bytes e 73 (eqb-true c 73 is) (eqb-true _ 3 n), field_below 1 3 line bytes e, tt)) (λ n ok.
      way G (eqb c 88) _ _ _ _ (Ok f) n ok (λ is n ok. told line bytes _ f ok (one_module line bytes e 88 (eqb-true c 88 is) (eqb-true _ 3 n), field_below 1 3 line bytes e, tt)) (λ n ok.
      let p = last (eqb c 68) (eqb (length bytes) 1) n in
      let one = eqb-true (length bytes) 1 p.1 in
      told line bytes drawing f ok (start line bytes e 68 (eqb-true c 68 p.0) (omega arith) ∙ ap (λ l. 68 ∷ l) (drop_all 1 bytes (omega arith)), tt, tt))))))))))

abbrev frame_in : List ℕ → Option (List ℕ) → Result Said Refusal
frame_in line o = elim o [
  | Some bytes ↦ cond (fits (letter bytes) (length bytes)) (fields (letter bytes) line bytes) (Err UnknownFrame)
  | None ↦ Err MalformedLine
]

passes : (b : Bool) (r : Result Said Refusal) (f : Said) → cond b r (Err UnknownFrame) ≡ Ok f → (b ≡ true) × (r ≡ Ok f)
passes true r f ok = (refl, ok)
passes false r f ok = let ok_err : ◌≡◌ {A = ℕ} 0 1 = cc in absurd (omega arith)

spelled : (line : List ℕ) (f : Said) (b : Bool) (o : Option (List ℕ)) → (leb 1 (length line) && leb (length line) 512) ≡ b → bytes_in line ≡ o → frame_in line (cond b o None) ≡ Ok f → Spells line f
spelled line f true (Some bytes) size e ok =
    let sizes = and_parts (leb 1 (length line)) (leb (length line) 512) size in
    let p = passes (fits (letter bytes) (length bytes)) (fields (letter bytes) line bytes) f ok in
    let t = by_letter line bytes e f p.0 p.1 in
    record { some = leb-true 1 (length line) sizes.0; short = leb-true (length line) 512 sizes.1; text = e ∙ ap Some t.0; fits = t.1; id = t.2 }
spelled line f true None size e ok = let ok_err : ◌≡◌ {A = ℕ} 0 1 = cc in absurd (omega arith)
spelled line f false o size e ok = let ok_err : ◌≡◌ {A = ℕ} 0 1 = cc in absurd (omega arith)

-- the text of a frame is read as that frame
abbrev at : ℕ → ModuleIdx
at n = record { 0 = n }

abbrev reading : Said → Result Said Refusal
reading f = Ok f

one_read : (n : ℕ) → big_endian (n ∷ []) ≡ n
one_read n = omega arith

reads : (line : List ℕ) (f : Said) → FitsFields f → IdIn line f → frame_in line (Some (spell f)) ≡ Ok f
reads line (options o) fit id =
    let r = options_read o.code_splitting o.chunk_modules_order in
    ap (λ n. options_with n (at (big_endian (two o.runtime_module.0))) (ltb n 4)) (one_read (option_bits o))
    ∙ ap (λ n. options_with (option_bits o) (at n) (ltb (option_bits o) 4)) (two_read o.runtime_module.0)
    ∙ cond-true _ _ _ r.0
    ∙ ap (λ b. reading (options (record { code_splitting = b; chunk_modules_order = order_by (bit 1 (option_bits o)); runtime_module = o.runtime_module }))) r.1
    ∙ ap (λ k. reading (options (record { code_splitting = o.code_splitting; chunk_modules_order = k; runtime_module = o.runtime_module }))) r.2
reads line (a_module flags order digits place) fit id =
    cond-true _ _ _ (le-leb 7 (length (spell (a_module flags order digits place))) (omega arith))
    ∙ ap (λ n. module_with line (big_endian (four order)) (flags_of n)) (two_read (flag_bits flags))
    ∙ ap (λ n. module_with line n (flags_of (flag_bits flags))) (four_read order)
    ∙ ap (module_with line order) (flags_read flags)
    ∙ ap (λ l. reading (a_module flags order l 14)) (sym id.1)
    ∙ ap (λ n. reading (a_module flags order digits n)) (sym id.0)
reads line (import_record r) fit id =
    ap (λ n. record_with (target_in (eqb (big_endian (two (target r.resolved_module))) 65535) (big_endian (two (target r.resolved_module)))) (import_kind n)) (one_read (import_number r.kind))
    ∙ ap (λ n. record_with (target_in (eqb n 65535) n) (import_kind (import_number r.kind))) (two_read (target r.resolved_module))
    ∙ ap (λ m. record_with m (import_kind (import_number r.kind))) (target_read r.resolved_module fit)
    ∙ ap (record_with r.resolved_module) (import_read r.kind)
reads line (listed m) fit id = ap (λ n. reading (listed (at n))) (two_read m.0)
reads line (entry e) fit id =
    ap (λ n. entry_with (at (big_endian (two e.«module».0))) (entry_kind n)) (one_read (entry_number e.kind))
    ∙ ap (λ n. entry_with (at n) (entry_kind (entry_number e.kind))) (two_read e.«module».0)
    ∙ ap (entry_with e.«module») (entry_read e.kind)
reads line (linking m d) fit id =
    ap (λ n. reading (linking (at n) (at (big_endian (two d.0))))) (two_read m.0) ∙ ap (λ n. reading (linking m (at n))) (two_read d.0)
reads line (unlinking m d) fit id =
    ap (λ n. reading (unlinking (at n) (at (big_endian (two d.0))))) (two_read m.0) ∙ ap (λ n. reading (unlinking m (at n))) (two_read d.0)
reads line (including m) fit id = ap (λ n. reading (including (at n))) (two_read m.0)
reads line (excluding m) fit id = ap (λ n. reading (excluding (at n))) (two_read m.0)
reads line drawing fit id = refl

pub reads_what_is_spelled : ReadsWhatIsSpelled
reads_what_is_spelled line f = (
  λ ok. spelled line f (leb 1 (length line) && leb (length line) 512) (bytes_in line) refl refl ok,
  λ s. ap (frame_in line) (cond-true _ _ _ (and_from _ _ (le-leb 1 _ s.some) (le-leb _ 512 s.short)) ∙ s.text) ∙ reads line f s.fits s.id,
)

pub reads_as : (line : List ℕ) (r : Result Said Refusal) → r ≡ frame_of line → Reads line r
reads_as line r e = subst (Reads line) (sym e) (reads_what_is_spelled line)
