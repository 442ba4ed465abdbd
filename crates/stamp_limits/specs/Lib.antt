pub mod StampLimits
