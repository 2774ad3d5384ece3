-- What an equation between answers says: of tests, of options and of results.
use Rattle.std.proofs.Common.{◌≡◌, Bool, true, false, cond, Some, None, Ok, Err, Result, refl}
pub use Rattle.std.proofs.lemmas.Option.{same_Some as some_same, none-some as none_some}

pub some_none : {A : Type 0} (x : A) → Some x ≡ None → ⊥
some_none x e = cc

module _ {A E : Type 0} where
  pub ok_same : (x y : A) → ◌≡◌ {A = Result A E} (Ok x) (Ok y) → x ≡ y
  ok_same x y e = cc

  pub err_ok : (f : E) (x : A) → ◌≡◌ {A = Result A E} (Err f) (Ok x) → ⊥
  err_ok f x e = cc

-- where a test chooses what an outcome is, the two ways in which it comes to it
pub by_test : {A P : Type 0} (b : Bool) (x y z : A) → (b ≡ true → x ≡ z → P) → (b ≡ false → y ≡ z → P) → cond b x y ≡ z → P
by_test true x y z p q e = p refl e
by_test false x y z p q e = q refl e
