-- What the invariant of shapes says to who reads trees of them.
use Rattle.std.proofs.Common.{◌≡◌, ℕ, suc, ◌<◌, ◌≤◌, List, [], ◌∷◌, length, get_or, None, Some, Ok, Err, Option, Result, sym, refl, ap, ◌∙◌, subst, arith, length-take}
use Rattle.std.specs.List.{slice_get}
use Rattle.std.proofs.lemmas.List.{length-take-le, take_all}
use Rattle.std.proofs.lemmas.Option.{slice_get_within}
use Rattle.packed.specs.declared.constructor.Constructor.{Constructor}
use Rattle.packed.specs.declared.fault.Fault.{Fault}
use Rattle.packed.specs.declared.shapes.Shapes.{Shapes}
use Rattle.packed.specs.declared.node.Node.{Node}
use Rattle.packed.specs.Descent.{reach}
use Rattle.packed.specs.Forms.{either, subtrees}
use Rattle.packed.specs.Shaped.{forms_of, sizes_of}
use Rattle.packed.specs.Reading.{left, read_nodes, read_bytes}
use Rattle.packed.specs.Trees.{Whole, AllWhole, spelled, as_node, as_bytes}
use Rattle.packed.specs.Packing.{integers_of, bytes_of, nodes_of, pack_of, unpack_of, filled}
use Rattle.packed.specs.Laws.{Spells, Leaves, Judged, Accepts, UnpacksTo, PacksTo}
use Rattle.packed.proofs.Fair.{forms-fair}
use Rattle.packed.proofs.Digits.{Bytes}
use Rattle.packed.proofs.ByteWords.{bytes-from, bytes-grown, bytes-leave}
use Rattle.packed.proofs.NodeWords.{Wholes, wholes-from, nodes-grown, nodes-leave}
use Rattle.packed.proofs.Round.{nodes-of-tree, bytes-of-tree, unpack-accepts, unpacks-back, pack-accepts, packs-back}
use Rattle.packed.proofs.Judges.{known-type, judged}
use Rattle.packed.proofs.Least.{Known}

known_from : (types : ℕ) (ts : List ℕ) → ((t j : ℕ) → slice_get ts j ≡ Some t → t < types) → Known types ts
known_from types [] f = tt
known_from types (t ∷ ts) f = (f t 0 refl, known_from types ts (λ u j e. f u (suc j) e))

pub record Shaped (g : List Constructor) (types : ℕ) : Type 0 where
  pub few : (b : ℕ) (c : Constructor) → slice_get g b ≡ Some c → c.fields.integers ≤ 4
  pub known : (b : ℕ) (c : Constructor) → slice_get g b ≡ Some c → Known types (subtrees c)
  pub most : length g ≤ 256

pub shaped : (s : Shapes) → Shaped (forms_of s) s.types
shaped s =
    let sizes : length (sizes_of s) ≡ s.types = length-take-le s.types s.sizes (let r = s.room in let u = s.used in omega arith) in
    let fair = forms-fair (sizes_of s) (forms_of s) s.fair in
    record {
      few = λ b c e. (fair b c e).integers;
      known = λ b c e. known_from s.types (subtrees c) (λ t j k. let h = (fair b c e).known t j k in omega arith);
      most = let l = length-take s.count s.constructors in let u = s.used in omega arith;
    }

pub few-integers : (s : Shapes) (k : ℕ) → integers_of (forms_of s) k ≤ 4
few-integers s k = named (slice_get (forms_of s) k) refl
  where
    named : (o : Option Constructor) → slice_get (forms_of s) k ≡ o → integers_of (forms_of s) k ≤ 4
    named None e = let none = ap (λ o. either o 0 (λ c. c.fields.integers)) e in omega arith
    named (Some c) e = let some = ap (λ o. either o 0 (λ c. c.fields.integers)) e in let few = (shaped s).few k c e in omega arith

-- what a call of pack or unpack answers, and leaves in its buffer, says of trees, as far as reading came
module _ (s : Shapes) (t : ℕ) where
  module _ (ns : List Node) where
    abbrev pub NodesRead : Result (Unit {0}) ℕ → Type 0
    NodesRead read = (i : ℕ) → i < reach read (length ns) → (n : Node) → slice_get ns i ≡ Some n → Whole n

    pub nodes-whole : NodesRead (Ok tt) → AllWhole ns
    nodes-whole seen i n e = seen i (slice_get_within ns i n e) n e

    pub packed-laws : (old out : List ℕ) (r : Result ℕ Fault) → r ≡ pack_of (forms_of s) s.types t ns (length old) → out ≡ filled r (bytes_of (forms_of s) ns) old → (t < s.types → NodesRead (read_nodes (forms_of s) (t ∷ []) ns 0)) → Judged as_node as_bytes (forms_of s) s.types t ns out r × Accepts as_node as_bytes (forms_of s) s.types t ns (length old) r × UnpacksTo (forms_of s) s.types t ns out r
    packed-laws old out r value after seen = (done, pack-accepts (forms_of s) (shaped s).few s.types t ns (length old) r value, back r value done)
      where
        leaves : t < s.types → (p : ℕ) → read_nodes (forms_of s) (t ∷ []) ns 0 ≡ Err p → Leaves as_node (forms_of s) s.types t ns p
        leaves known p e = nodes-leave (forms_of s) (shaped s).few s.types (shaped s).known t ns p known (wholes-from ns p (subst NodesRead e (seen known))) e

        spells : t < s.types → read_nodes (forms_of s) (t ∷ []) ns 0 ≡ Ok tt → (x : Spells as_node (forms_of s) t ns) × (bytes_of (forms_of s) ns ≡ spelled as_bytes x.0)
        spells known e =
            let all = wholes-from ns (length ns) (subst NodesRead e (seen known)) in
            let x = nodes-grown (forms_of s) (shaped s).few t ns (subst Wholes (take_all (length ns) ns (omega arith)) all) e in
            (x, ap (bytes_of (forms_of s)) (sym x.2) ∙ bytes-of-tree (forms_of s) (shaped s).few x.0 t x.1)

        done : Judged as_node as_bytes (forms_of s) s.types t ns out r
        done = judged as_node as_bytes (forms_of s) s.types t ns (read_nodes (forms_of s) (t ∷ []) ns 0) (bytes_of (forms_of s) ns) old leaves spells r out value after

        back : (r : Result ℕ Fault) → r ≡ pack_of (forms_of s) s.types t ns (length old) → Judged as_node as_bytes (forms_of s) s.types t ns out r → UnpacksTo (forms_of s) s.types t ns out r
        back (Err f) v j = tt
        back (Ok n) v j = unpacks-back (forms_of s) s.types t ns out n (known-type as_node as_bytes (forms_of s) s.types t ns (read_nodes (forms_of s) (t ∷ []) ns 0) (bytes_of (forms_of s) ns) old n v) j

  module _ (bs : List ℕ) where
    abbrev pub BytesRead : Result (Unit {0}) ℕ → Type 0
    BytesRead read = (i : ℕ) → i < reach read (length bs) → get_or bs i 0 < 256

    pub unpacked-laws : (old out : List Node) (r : Result ℕ Fault) → r ≡ unpack_of (forms_of s) s.types t bs (length old) → out ≡ filled r (nodes_of (forms_of s) 0 bs) old → (t < s.types → BytesRead (read_bytes (forms_of s) (left 0 (t ∷ [])) bs 0)) → Judged as_bytes as_node (forms_of s) s.types t bs out r × Accepts as_bytes as_node (forms_of s) s.types t bs (length old) r × PacksTo (forms_of s) s.types t bs out r
    unpacked-laws old out r value after seen = (done, unpack-accepts (forms_of s) s.types t bs (length old) r value, back r value done)
      where
        leaves : t < s.types → (p : ℕ) → read_bytes (forms_of s) (left 0 (t ∷ [])) bs 0 ≡ Err p → Leaves as_bytes (forms_of s) s.types t bs p
        leaves known p e = bytes-leave (forms_of s) (shaped s).most s.types (shaped s).known t bs p known (bytes-from bs p (subst BytesRead e (seen known))) e

        spells : t < s.types → read_bytes (forms_of s) (left 0 (t ∷ [])) bs 0 ≡ Ok tt → (x : Spells as_bytes (forms_of s) t bs) × (nodes_of (forms_of s) 0 bs ≡ spelled as_node x.0)
        spells known e =
            let all = bytes-from bs (length bs) (subst BytesRead e (seen known)) in
            let x = bytes-grown (forms_of s) t bs (subst Bytes (take_all (length bs) bs (omega arith)) all) e in
            (x, ap (nodes_of (forms_of s) 0) (sym x.2) ∙ nodes-of-tree (forms_of s) x.0 t x.1)

        done : Judged as_bytes as_node (forms_of s) s.types t bs out r
        done = judged as_bytes as_node (forms_of s) s.types t bs (read_bytes (forms_of s) (left 0 (t ∷ [])) bs 0) (nodes_of (forms_of s) 0 bs) old leaves spells r out value after

        back : (r : Result ℕ Fault) → r ≡ unpack_of (forms_of s) s.types t bs (length old) → Judged as_bytes as_node (forms_of s) s.types t bs out r → PacksTo (forms_of s) s.types t bs out r
        back (Err f) v j = tt
        back (Ok n) v j = packs-back (forms_of s) (shaped s).few s.types t bs out n (known-type as_bytes as_node (forms_of s) s.types t bs (read_bytes (forms_of s) (left 0 (t ∷ [])) bs 0) (nodes_of (forms_of s) 0 bs) old n v) j
