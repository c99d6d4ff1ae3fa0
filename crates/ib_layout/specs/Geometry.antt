-- How large a space is.
use Rattle.std.specs.Prelude.{ℕ, Bool, nat_le, ◌&&◌, refl}
use Rattle.ib_layout.specs.declared.geometry.TheConstants.{LEAST_LOG_WORDS, MOST_LOG_WORDS}
use Rattle.std.specs.Coded.{Coded, code_by, coded×, coded_ℕ}

-- the pages of a space, and the words of its log
pub record Sizes : Type 0 where
  pub pages : ℕ
  pub log_words : ℕ

abbrev pub sizes_code : Coded Sizes
sizes_code = code_by (ℕ × ℕ) (coded× coded_ℕ coded_ℕ) (λ s. (s.pages, s.log_words)) (λ p. record { pages = p.0; log_words = p.1 }) (λ _. refl)

-- 8,196 to 16,777,216 log words
abbrev pub has_log : ℕ → Bool
has_log words = nat_le LEAST_LOG_WORDS words && nat_le words MOST_LOG_WORDS
