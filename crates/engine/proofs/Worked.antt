-- The worked examples: every verdict and every answer computes.
use Rattle.std.proofs.Common.{◌≡◌, zero, suc, ℤ, pos, negsuc, refl}
use Rattle.flowcheck.proofs.Worked.{worked_books}
use Rattle.flowcheck.specs.Worked.{card_of_ones, evened}
use Rattle.engine.specs.Models.{fresh}
use Rattle.engine.specs.Promises.{Pairs, none, puts, same, transcript}
use Rattle.engine.specs.Worked.{WorkedExamples, answers, carried_openly, taking, timed}
use Rattle.scale.specs.Ladders.{ladder}
use Rattle.std.proofs.lemmas.Bool.{false≢true}

evened_any : (a : ℤ) → answers card_of_ones (timed evened a 0) ≡ taking 4
evened_any (pos zero) = refl
evened_any (pos (suc n)) = refl
evened_any (negsuc n) = refl

-- what level 0 learns is the clock, whatever was put
evened_any_learned : (a : ℤ) → transcript (ladder 2) card_of_ones 0 fresh (timed evened a 0) ≡ taking 4
evened_any_learned (pos zero) = refl
evened_any_learned (pos (suc n)) = refl
evened_any_learned (negsuc n) = refl

-- S is not held at level 0 or below, so its amounts may differ
pair : (a b : ℤ) → Pairs (ladder 2) card_of_ones 0 fresh fresh (timed evened a 0) (timed evened b 0)
pair a b = same _ tt (puts 1 a b (λ h. absurd (false≢true h.1)) (same _ tt (same _ tt none)))

-- figure 2 is not held at level 0 or below either, so what is carried into it may differ
carry_pair : (a b : ℤ) → Pairs (ladder 2) card_of_ones 0 fresh fresh (carried_openly a) (carried_openly b)
carry_pair a b = same _ tt (puts 1 a b (λ h. absurd (false≢true h.1)) (same _ tt (same _ (λ r h. absurd (false≢true h.1)) (same _ tt (same _ tt none)))))

pub worked_examples : WorkedExamples
unfolding lib.Count.ones lib.Count.count_leading_zeros
worked_examples =
    record {
      books = worked_books;
      evened_of_0 = refl;
      evened_of_7 = refl;
      evened_of_any = evened_any;
      uneven_of_0 = refl;
      uneven_of_7 = refl;
      uneven_hidden = refl;
      hidden_clock = refl;
      squared_of_7 = refl;
      squared_of_8 = refl;
      square_fits = refl;
      square_stays = refl;
      quotient = refl;
      quotient_stays = refl;
      quotient_by_0 = λ a. refl;
      three_turns = refl;
      no_turns = refl;
      nothing = refl;
      put_any = λ a. refl;
      hidden_figure = refl;
      released = refl;
      card_first = refl;
      card_last = refl;
      card_outside = refl;
      multiply_charged = refl;
      multiply_turned = refl;
      divide_charged = refl;
      divide_negative = refl;
      fewer_below = refl;
      more_above = refl;
      clock_stops = refl;
      late_reading = refl;
      refusal_order = refl;
      last_opening = (refl, refl);
      pairs_off = pair;
      learned = evened_any_learned;
      carry_pairs_off = carry_pair;
      carried_on = λ a. refl;
    }
