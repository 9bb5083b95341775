-- `all` over a range, and `contains`.
use Rattle.std.proofs.Common.{◌≡◌, ℕ, zero, suc, ◌+◌, Bool, true, false, eqb, ◌&&◌, ◌||◌, List, [], ◌∷◌, Some, None, Option, refl, sym, ap, ◌∙◌}
use Rattle.std.specs.List.{range_with_len, list_all, list_any}
use Rattle.checker.specs.declared.kind.Kind.{Kind}
use Rattle.checker.specs.declared.kind.Kind.TheVariants as kind
use Rattle.checker.specs.Conditions.{any_tree}

-- a test of n numbers from place i on, where `whole` tests the first of them and goes on
pub all_in-range : (test : ℕ → Bool) (place : ℕ → ℕ) (whole : ℕ → ℕ → Bool) → ((i : ℕ) → place (i + 1) ≡ place i + 1) → ((i : ℕ) → whole i zero ≡ true) → ((i n : ℕ) → whole i (suc n) ≡ (test (place i) && whole (i + 1) n)) → (i a n : ℕ) → a ≡ place i → list_all test (range_with_len a n) ≡ whole i n
all_in-range test place whole next none more i a zero e = sym (none i)
all_in-range test place whole next none more i a (suc n) e =
    ap (λ a. test a && list_all test (range_with_len (a + 1) n)) e
    ∙ ap (λ b. test (place i) && b) (all_in-range test place whole next none more (i + 1) (place i + 1) n (sym (next i)))
    ∙ sym (more i n)

-- the test of a search for a tree of type t at m
pub any_tree-is : (test : Option Kind → Bool) (t m : ℕ) → test None ≡ false → test (Some kind.Integer) ≡ false → ((s l : ℕ) → test (Some (kind.Tree s l)) ≡ (eqb s t && eqb l m)) → (ks : List (Option Kind)) → list_any test ks ≡ any_tree t m ks
any_tree-is test t m none integer tree [] = refl
any_tree-is test t m none integer tree (None ∷ ks) = ap (λ b. b || list_any test ks) none ∙ any_tree-is test t m none integer tree ks
any_tree-is test t m none integer tree (Some kind.Integer ∷ ks) = ap (λ b. b || list_any test ks) integer ∙ any_tree-is test t m none integer tree ks
any_tree-is test t m none integer tree (Some (kind.Tree s l) ∷ ks) =
    ap (λ b. b || list_any test ks) (tree s l)
    ∙ ap (λ b. (eqb s t && eqb l m) || b) (any_tree-is test t m none integer tree ks)
