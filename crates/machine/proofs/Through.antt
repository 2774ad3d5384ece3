-- Going on from a place inside some ifs: the stretch ahead runs, and then each if around it is left.
use Rattle.std.proofs.Common.{◌≡◌, ℕ, zero, suc, Bool, cond, refl}
use Rattle.book.specs.declared.instruction.Instruction.{Instruction}
use Rattle.book.specs.declared.instruction.Instruction.TheVariants.{If, Repeat}
use Rattle.book.specs.Trees.{Code, done, plain, branch, loop, Ahead, last, closed, ending, elsing, stopping, grow, here}
use Rattle.steps.specs.Amounts.{is_zero}
use Rattle.steps.specs.Machines.{Machine, amount_at, emptied, perform}
use Rattle.steps.specs.Runs.{exec, times}
use Rattle.meter.specs.Meters.{MeterModel}

-- the machine after the stretch ahead and after leaving the k ifs that are open: an end leaves one, and so does an else,
-- behind which the second part is left out; where nothing closes an if in this way the stretch ahead is all that runs
abbrev pub through : MeterModel → ℕ → Ahead → Machine → Machine
through m zero a s = exec m (here a) s
through m (suc k) (last c) s = exec m c s
through m (suc k) (closed ending c a) s = through m k a (emptied (exec m c s))
through m (suc k) (closed elsing c (last g)) s = exec m c s
through m (suc k) (closed elsing c (closed ending g a)) s = through m k a (emptied (exec m c s))
through m (suc k) (closed elsing c (closed elsing g a)) s = exec m c s
through m (suc k) (closed elsing c (closed stopping g a)) s = exec m c s
through m (suc k) (closed stopping c a) s = exec m c s

-- Whatever grows the stretch ahead and is then run in one step to another machine: the rest goes on from that one.
pub through_grow : (m : MeterModel) (f : Code → Code) (s t : Machine) → ((c : Code) → exec m (f c) s ≡ exec m c t) → (k : ℕ) (a : Ahead) → through m k (grow f a) s ≡ through m k a t
through_grow m f s t e zero (last c) = e c
through_grow m f s t e zero (closed x c a) = e c
through_grow m f s t e (suc k) (last c) = e c
through_grow m f s t e (suc k) (closed ending c a) = λ i. through m k a (emptied (e c i))
through_grow m f s t e (suc k) (closed elsing c (last g)) = e c
through_grow m f s t e (suc k) (closed elsing c (closed ending g a)) = λ i. through m k a (emptied (e c i))
through_grow m f s t e (suc k) (closed elsing c (closed elsing g a)) = e c
through_grow m f s t e (suc k) (closed elsing c (closed stopping g a)) = e c
through_grow m f s t e (suc k) (closed stopping c a) = e c

-- a plain instruction is done first
pub through_plain : (m : MeterModel) (k : ℕ) (i : Instruction) (a : Ahead) (s : Machine) → through m k (grow (plain i) a) s ≡ through m k a (perform m i s)
through_plain m k i a s = through_grow m (plain i) s (perform m i s) (λ c. refl) k a

-- an if runs the part that is chosen
pub through_branch : (m : MeterModel) (k : ℕ) (b : Bool) (f g : Code) (a : Ahead) (s : Machine) → through m k (grow (branch b f g) a) s ≡ through m k a (emptied (cond (is_zero (amount_at s.stack 0)) (exec m g (perform m If s)) (exec m f (perform m If s))))
through_branch m k b f g a s =
    through_grow m (branch b f g) s (emptied (cond (is_zero (amount_at s.stack 0)) (exec m g (perform m If s)) (exec m f (perform m If s)))) (λ c. refl) k a

-- a repeat runs its turns
pub through_loop : (m : MeterModel) (k n : ℕ) (f : Code) (a : Ahead) (s : Machine) → through m k (grow (loop n f) a) s ≡ through m k a (emptied (times n (λ t. exec m f (perform m (Repeat n) t)) s))
through_loop m k n f a s = through_grow m (loop n f) s (emptied (times n (λ t. exec m f (perform m (Repeat n) t)) s)) (λ c. refl) k a

-- nothing ahead
pub through_nothing : (m : MeterModel) (k : ℕ) (s : Machine) → through m k (last done) s ≡ s
through_nothing m zero s = refl
through_nothing m (suc k) s = refl

-- a stop ahead
pub through_stop : (m : MeterModel) (k : ℕ) (a : Ahead) (s : Machine) → through m k (closed stopping done a) s ≡ s
through_stop m zero a s = refl
through_stop m (suc k) a s = refl

-- an else ahead goes on as at the end behind the second part
pub through_else : (m : MeterModel) (k : ℕ) (g : Code) (a : Ahead) (s : Machine) → through m k (closed elsing done (closed ending g a)) s ≡ through m k (closed ending done a) s
through_else m zero g a s = refl
through_else m (suc k) g a s = refl
